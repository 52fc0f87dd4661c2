-- The laws of predicates of contents, from those of predicates of bytes.
use Rattle.std.specs.Prelude.{◌≡◌, refl, ℕ, List, Result, Ok, Err, Some, codes}
use Rattle.std.proofs.Common.{ap}
use Rattle.predicates_core.specs.Label.{Entry, FitsEntry}
use Rattle.predicates_core.specs.Formula.{Formula, text_of, with_product}
use Rattle.predicates_core.specs.LeafLaws.{exactly_text_fits, one_exactly}
use Rattle.predicates_core.proofs.Added.{with_product_text_fits, one_with_product}
use Rattle.predicates_path.specs.declared.fault.PathFault.{PathFault}
use Rattle.predicates_path.specs.Snapshot.{Bytes}
use Rattle.predicates_path.specs.Content.{IsOfContent, content_formula, without_content}

module _ {text : Entry} {has : Bytes → Formula → Type 0} {path : List ℕ} where
  pub content_text_fits : {f : Formula} (held : Result Bytes PathFault)
      → ((v : Bytes) (g : Formula) → has v g → FitsEntry (text_of g) text)
      → IsOfContent text has path held f → FitsEntry (text_of f) text
  content_text_fits (Ok v) fits h = with_product_text_fits (fits v) (h.of_bytes v refl)
  content_text_fits (Err fault) fits h = exactly_text_fits (h.of_fault fault refl)

  pub one_content : {f g : Formula} (held : Result Bytes PathFault)
      → ((v : Bytes) (x y : Formula) → has v x → has v y → x ≡ y) → IsOfContent text has path held f
      → IsOfContent text has path held g → f ≡ g
  one_content (Ok v) one h k = one_with_product (one v) (h.of_bytes v refl) (k.of_bytes v refl)
  one_content (Err fault) one h k = one_exactly (h.of_fault fault refl) (k.of_fault fault refl)

-- the formula is had, where the part has one on each content
pub has_content_formula : (text : Entry) (has : Bytes → Formula → Type 0)
    (formula_of : Bytes → Formula) (path : List ℕ) (held : Result Bytes PathFault)
    → ((v : Bytes) → has v (formula_of v))
    → IsOfContent text has path held (content_formula text formula_of path held)
has_content_formula text has formula_of path (Ok v) had = record {
  of_bytes = λ w e. let same : v ≡ w = cc in record {
    inner = formula_of w;
    of_part = had w;
    is = ap
        (λ z. with_product (formula_of z) (record { name = codes "var"; value = Some path })) same;
  };
  of_fault = λ fault e. absurd (cc);
}
has_content_formula text has formula_of path (Err fault) had = record {
  of_bytes = λ w e. absurd (cc);
  of_fault = λ other e. let same : fault ≡ other = cc in record
      { is = ap (without_content text path) same };
}
