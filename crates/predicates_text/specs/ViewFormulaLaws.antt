-- The laws of predicates that evaluate another on a view of a text.
use Rattle.std.specs.Prelude.{◌≡◌, refl, ℕ, List, Option, true, false, string_bytes}
use Rattle.std.specs.Str.{IsUtf8, is_utf8}
use Rattle.std.proofs.Common.{subst, ◌⊎◌, ⊎_elim}
use Rattle.std.proofs.lemmas.Str.{IsUtf8-from_is_utf8, is_utf8-from_IsUtf8, IsUtf8-string_bytes}
use Rattle.std.proofs.lemmas.Bool.{cases_Bool}
use Rattle.predicates_core.specs.Text.{Text}
use Rattle.predicates_core.specs.Label.{FitsEntry}
use Rattle.predicates_core.specs.Formula.{Formula, text_of}
use Rattle.predicates_core.specs.LeafLaws.{exactly_text_fits, one_exactly}
use Rattle.predicates_core.proofs.Added.{with_product_text_fits, one_with_product}
use Rattle.predicates_text.specs.ViewFormulas.{IsOfEach, IsDecoded, decoded_formula}

module _ {has : Text → Formula → Type 0} {viewed : Text → Type 0} where
  pub each_text_fits : {f : Formula} (printed : Option (List ℕ)) → (t : Text) × viewed t
      → ((t : Text) → has t f → FitsEntry (text_of f) printed) → IsOfEach has viewed f
      → FitsEntry (text_of f) printed
  each_text_fits printed some fits h = fits some.0 (h.each some.0 some.1)

  pub one_each : {f g : Formula} → (t : Text) × viewed t → ((t : Text) → has t f → has t g → f ≡ g)
      → IsOfEach has viewed f → IsOfEach has viewed g → f ≡ g
  one_each some one h k = one some.0 (h.each some.0 some.1) (k.each some.0 some.1)

-- the formula at the content of the view
pub has_each : (content : List ℕ → Formula) (has : Text → Formula → Type 0) (viewed : Text → Type 0)
    (bytes : List ℕ) → ((t : Text) → has t (content (string_bytes t)))
    → ((t : Text) → viewed t → string_bytes t ≡ bytes) → IsOfEach has viewed (content bytes)
has_each content has viewed bytes had same = record
    { each = λ t is. subst (λ bs. has t (content bs)) (same t is) (had t) }

-- the bytes are those of a text, or not UTF-8
abbrev pub TextOrNot : List ℕ → Type 0
TextOrNot bytes = ((t : Text) × (string_bytes t ≡ bytes)) ⊎ ¬ (IsUtf8 bytes)

module _ {text : Option (List ℕ)} {has : Text → Formula → Type 0} {bytes : List ℕ} where
  pub decoded_text_fits : {f : Formula} → TextOrNot bytes
      → ((t : Text) (g : Formula) → has t g → FitsEntry (text_of g) text)
      → IsDecoded text has bytes f → FitsEntry (text_of f) text
  decoded_text_fits v fits h = ⊎_elim (λ t. with_product_text_fits (fits t.0) (h.of_text t.0 t.1))
      (λ n. exactly_text_fits (h.of_other n)) v

  pub one_decoded : {f g : Formula} → TextOrNot bytes
      → ((t : Text) (x y : Formula) → has t x → has t y → x ≡ y) → IsDecoded text has bytes f
      → IsDecoded text has bytes g → f ≡ g
  one_decoded v one h k = ⊎_elim
      (λ t. one_with_product (one t.0) (h.of_text t.0 t.1) (k.of_text t.0 t.1))
      (λ n. one_exactly (h.of_other n) (k.of_other n)) v

-- bytes have that formula
pub has_decoded_formula : (content : List ℕ → Formula) (text : Option (List ℕ))
    (has : Text → Formula → Type 0) (bytes : List ℕ)
    → ((t : Text) → has t (content (string_bytes t)))
    → IsDecoded text has bytes (decoded_formula content text bytes)
unfolding decoded_formula
has_decoded_formula content text has bytes had = record {
  of_text = λ t e.
      let is : is_utf8 bytes ≡ true = subst (λ bs. is_utf8 bs ≡ true) e
      (is_utf8-from_IsUtf8 (string_bytes t) (IsUtf8-string_bytes t)) in
      record {
        inner = content bytes;
        of_part = subst (λ bs. has t (content bs)) e (had t);
        is = rw
            is refl;
      };
  of_other = λ n.
      let other : is_utf8 bytes ≡ false = ⊎_elim (λ e. absurd (n (IsUtf8-from_is_utf8 bytes e)))
      (λ e. e) (cases_Bool (is_utf8 bytes)) in
      record { is = rw other refl };
}
