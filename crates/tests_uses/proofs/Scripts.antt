-- The truth of the test of scripts.
use Rattle.std.proofs.Common.{◌≡◌, ℕ, Bool, true, false, List, Option, Some, None, codes, refl, sym, ap, ◌∙◌, subst}
use Rattle.std.specs.Prelude.{◌&&◌, Result, Ok, Err, MatchOption, if◌then◌else◌}
use Rattle.std.specs.Str.{chars, is_utf8}
use Rattle.predicates_core.specs.Label.{Entry, plain}
use Rattle.predicates_core.specs.declared.custom.join.Operator.TheVariants.{And}
use Rattle.predicates_core.specs.Formula.{Formula, pair, Named, truth, HasTruth}
use Rattle.predicates_core.specs.Combined.{IsPair, IsNamed}
use Rattle.predicates_core.specs.Tree.{Tree}
use Rattle.predicates_core.specs.Describe.{CaseNode}
use Rattle.predicates_core.specs.Shows.{IsAnswer}
use Rattle.predicates_core.proofs.Values.{truth-Leaf, truth-pair, truth-Named}
use Rattle.predicates_core.proofs.FirstOf.{with_product_truth}
use Rattle.predicates_core.proofs.CombinedLemmas.{has_pair, has_named}
use Rattle.predicates_text.specs.Places.{is_front}
use Rattle.predicates_text.specs.ViewFormulas.{decoded, undecoded, decoded_formula}
use Rattle.predicates_text.specs.Leaves.{starts_formula}
use Rattle.predicates_path.specs.declared.fault.PathFault.{PathFault}
use Rattle.predicates_path.specs.Content.{content_formula}
use Rattle.predicates_path.specs.Snapshot.{Bytes}
use Rattle.tests_uses.specs.Script.{is_marked, is_script, IsNoScript}
use Rattle.std.specs.Prelude.{cond, string_bytes}
use Rattle.predicates_core.specs.Leaves.{IsExactly}
use Rattle.predicates_text.specs.ViewFormulas.{IsDecoded}
use Rattle.predicates_text.specs.ViewFormulaLaws.{has_decoded_formula}
use Rattle.predicates_text.specs.Leaves.{starts_text}
use Rattle.predicates_text.specs.LeafFormulas.{IsStartsLeaf}
use Rattle.predicates_text.specs.LeafFormulaLaws.{has_starts}
use Rattle.predicates_path.specs.Content.{IsOfContent}
use Rattle.predicates_path.specs.ContentLaws.{has_content_formula}
use Rattle.predicates_path.specs.Kind.{tested_kind, follows, found_kind, has_kind, kind_formula}
use Rattle.predicates_path.specs.declared.file_test.FileTestPredicate.{FileTestPredicate}
use Rattle.predicates_path.specs.declared.file_type_predicate.FileTypePredicate.{FileTypePredicate}
use Rattle.predicates_path.specs.declared.file_type.FileType.TheVariants.{File}
use Rattle.predicates_path.specs.declared.snapshot.Snapshot.{Snapshot}
use Rattle.predicates_path.specs.Snapshot.{path_of, held_of, followed_of, plain_of}

pub decoded_truth : (text : Entry) (mark bytes : List ℕ) → truth (decoded_formula (starts_formula mark) text bytes) ≡ (is_utf8 bytes && is_front (chars mark) (chars bytes))
unfolding decoded_formula
decoded_truth text mark bytes = of_test (is_utf8 bytes)
  where
    of_test : (b : Bool) → truth (if b then decoded bytes (starts_formula mark bytes) else undecoded text) ≡ (b && is_front (chars mark) (chars bytes))
    of_test true = with_product_truth (starts_formula mark bytes) _ ∙ truth-Leaf _ _
    of_test false = truth-Leaf _ _

pub content_truth : (text : Entry) (mark path : List ℕ) (held : Result Bytes PathFault) → truth (content_formula text (λ v. decoded_formula (starts_formula mark) text v.items) path held) ≡ is_marked mark held
content_truth text mark path (Ok bytes) = with_product_truth (decoded_formula (starts_formula mark) text bytes.items) _ ∙ decoded_truth text mark bytes.items
content_truth text mark path (Err fault) = truth-Leaf _ _

module _ (name : List ℕ) (text : Entry) (K C : Formula → Type 0) where
  pub named_truth : (k r : Formula) (a b c : Bool) → K k → C r → truth k ≡ a → truth r ≡ b → HasTruth (IsNamed name (IsPair And text K C)) c → (a && b) ≡ c
  named_truth k r a b c of_k of_r is_a is_b h =
      sym (λ i. is_a i && is_b i) ∙ sym (truth-pair And (plain text) k r) ∙ sym (truth-Named (plain (Some name)) name (pair And (plain text) k r))
      ∙ h.at (Named (plain (Some name)) name (pair And (plain text) k r)) (has_named (has_pair of_k of_r))

  pub answered : (k r : Formula) (a b : Bool) (found : Option (Tree CaseNode)) → K k → C r → truth k ≡ a → truth r ≡ b → IsAnswer (IsNamed name (IsPair And text K C)) false found
      → MatchOption found ((a && b) ≡ true) (λ case. (a && b) ≡ false)
  answered k r a b None of_k of_r is_a is_b h = named_truth k r a b true of_k of_r is_a is_b h
  answered k r a b (Some case) of_k of_r is_a is_b h = named_truth k r a b false of_k of_r is_a is_b h.truth

-- the test of the kind and that of the content, under whatever they print
pub script_told : (name : List ℕ) (text : Entry) (kind : FileTestPredicate FileTypePredicate) (mark : List ℕ) (s : Snapshot) (found : Option (Tree CaseNode))
    → tested_kind kind ≡ File → follows kind ≡ true → mark ≡ codes "#!"
    → IsAnswer (IsNamed name (IsPair And text (IsExactly (kind_formula kind s))
    (IsOfContent (starts_text mark) (λ v. IsDecoded (starts_text mark) (λ t. IsStartsLeaf mark (string_bytes t)) v.items) (path_of s) (held_of s)))) false found
    → IsNoScript s found
script_told name text kind mark s found is_kind follow is_mark h =
    let content : Bytes → Formula = λ v. decoded_formula (starts_formula mark) (starts_text mark) v.items in
    let has : Bytes → Formula → Type 0 = λ v. IsDecoded (starts_text mark) (λ t. IsStartsLeaf mark (string_bytes t)) v.items in
    let of_content : IsOfContent (starts_text mark) has (path_of s) (held_of s) (content_formula (starts_text mark) content (path_of s) (held_of s)) =
    has_content_formula (starts_text mark) has content (path_of s) (held_of s) (λ v. has_decoded_formula (starts_formula mark) (starts_text mark) (λ t. IsStartsLeaf mark (string_bytes t)) v.items (λ t. has_starts mark (string_bytes t))) in
    let own : Bool = has_kind (tested_kind kind) (found_kind (follows kind) s) in
    let told : MatchOption found ((own && is_marked mark (held_of s)) ≡ true) (λ case. (own && is_marked mark (held_of s)) ≡ false) =
    answered name text (IsExactly (kind_formula kind s)) (IsOfContent (starts_text mark) has (path_of s) (held_of s)) (kind_formula kind s) (content_formula (starts_text mark) content (path_of s) (held_of s)) own (is_marked mark (held_of s)) found (record { is = refl }) of_content (truth-Leaf _ _) (content_truth (starts_text mark) mark (path_of s) (held_of s)) h in
    let same : (own && is_marked mark (held_of s)) ≡ is_script s = λ i. has_kind (is_kind i) (cond (follow i) (followed_of s) (plain_of s)) && is_marked (is_mark i) (held_of s) in
    subst (λ b. MatchOption found (b ≡ true) (λ case. b ≡ false)) same told
