-- Leaves that show what was found.
use Rattle.std.proofs.Common.{◌≡◌, ℕ, List, Bool, false, Option, Some, None, refl, sym, ◌∙◌, subst}
use Rattle.std.specs.Prelude.{IfSome, codes, [], ◌∷◌}
use Rattle.std.specs.Option.{unwrap_or}
use Rattle.predicates_core.specs.Describe.{CaseNode}
use Rattle.predicates_core.specs.Formula.{Leaf, with_product}
use Rattle.predicates_core.specs.Label.{Entry, Label, Product, plain, showing, with_last}
use Rattle.predicates_core.specs.Leaves.{IsExactly, IsShowing}
use Rattle.predicates_core.specs.Shows.{IsCaseOf}
use Rattle.predicates_core.specs.Tree.{Tree}
use Rattle.predicates_core.proofs.Leaves.{HasTruth-exactly, own_truth}
use Rattle.predicates_core.proofs.Added.{IsCaseOf-with_product}
use Rattle.serde_json.specs.Data.{Data}
use Rattle.vet_checks.specs.CheckTrees.{found_label, found_leaf, misfit_leaf, nothing_leaf, answer_leaf, shown_beside, ShowsBeside}
use Rattle.vet_checks.specs.Questions.{misfit_text}
use Rattle.vet_checks.specs.Scopes.{Place}
use Rattle.vet_checks.specs.declared.question.Question.{Question}

fits_open : (entry : Entry) (bytes shown : List ℕ) → IfSome entry (λ given. bytes ≡ given) → shown ≡ bytes → IfSome entry (λ given. shown ≡ given)
fits_open None bytes shown h e = tt
fits_open (Some given) bytes shown h e = e ∙ h

-- what is shown fits an entry that its bytes fit
pub showing_entry : {name bytes : List ℕ} {c t : Tree CaseNode} (entry : Entry) → IfSome entry (λ given. bytes ≡ given) → IsShowing name (Some bytes) c t → IsShowing name entry c t
showing_entry {name} {bytes} entry h s = record { bytes = s.bytes; fits = fits_open entry bytes s.bytes h s.fits; is = s.is }

-- one product more, the last, on both sides
pub one_more : (label : Label) {own b : Bool} {c t : Tree CaseNode} (p : Product) → IsShowing p.name p.value c t → IsCaseOf (IsExactly (Leaf label own)) b c → IsCaseOf (IsExactly (Leaf (with_last label p) own)) b t
unfolding with_product
one_more label {own} p s h =
    let more = IsCaseOf-with_product s h in
    record {
      truth = HasTruth-exactly (own_truth h.truth);
      explains = λ f x. more.explains f (record { inner = Leaf label own; of_part = record { is = refl }; is = x.is });
    }

-- a leaf that shows a value, and an error behind it
pub one_more_of : (text : Entry) (name : List ℕ) (value : Entry) (error : List ℕ) {own b : Bool} {c t : Tree CaseNode} → IsShowing (codes "error") (Some error) c t → IsCaseOf (IsExactly (Leaf (showing text name value) own)) b c
    → IsCaseOf (IsExactly (Leaf (record { text = text; products = record { name = name; value = value } ∷ record { name = codes "error"; value = Some error } ∷ [] }) own)) b t
one_more_of text name value error s h = one_more (showing text name value) (record { name = codes "error"; value = Some error }) s h

-- with what is shown beside the value
pub case_beside : (text : List ℕ) (d : Data) (beside : Option Product) {own b : Bool} {c t : Tree CaseNode} → ShowsBeside beside c t → IsCaseOf (IsExactly (found_leaf text d None own)) b c → IsCaseOf (IsExactly (found_leaf text d beside own)) b t
case_beside text d None {own} {b} s h = subst (λ z. IsCaseOf (IsExactly (found_leaf text d None own)) b z) (sym s) h
case_beside text d (Some p) s h = one_more (found_label text d None) p s h

-- ---- the case of an answer

module _ (text path : List ℕ) (q : Question) (p : Place) {o : Option Data} {v : Option Bool} {t : Tree CaseNode} where
  of_answer : (r : Option Data) (w : Option Bool) → o ≡ r → v ≡ w → IsCaseOf (IsExactly (answer_leaf text path q p r w)) (unwrap_or w false) t → IsCaseOf (IsExactly (answer_leaf text path q p o v)) (unwrap_or v false) t
  of_answer r w e f h = subst (λ z. IsCaseOf (IsExactly (answer_leaf text path q p o z)) (unwrap_or z false) t) (sym f) (subst (λ z. IsCaseOf (IsExactly (answer_leaf text path q p z w)) (unwrap_or w false) t) (sym e) h)

  pub case_of_value : {d : Data} {b : Bool} → o ≡ Some d → v ≡ Some b → IsCaseOf (IsExactly (found_leaf text d (shown_beside q p d) b)) b t → IsCaseOf (IsExactly (answer_leaf text path q p o v)) (unwrap_or v false) t
  case_of_value {d} {b} = of_answer (Some d) (Some b)

  pub case_of_misfit : {d : Data} → o ≡ Some d → v ≡ None → IsCaseOf (IsExactly (misfit_leaf text (misfit_text q p) d (shown_beside q p d))) false t → IsCaseOf (IsExactly (answer_leaf text path q p o v)) (unwrap_or v false) t
  case_of_misfit {d} = of_answer (Some d) None

  pub case_of_bare : {b : Bool} → o ≡ None → v ≡ Some b → IsCaseOf (IsExactly (Leaf (plain (Some text)) b)) b t → IsCaseOf (IsExactly (answer_leaf text path q p o v)) (unwrap_or v false) t
  case_of_bare {b} = of_answer None (Some b)

  pub case_of_nothing : o ≡ None → v ≡ None → IsCaseOf (IsExactly (nothing_leaf text path)) false t → IsCaseOf (IsExactly (answer_leaf text path q p o v)) (unwrap_or v false) t
  case_of_nothing = of_answer None None

pub ruleset answers = (case_of_value, case_of_misfit, case_of_bare, case_of_nothing)
