-- The formula of the predicate of null, by whether the value is null.
use Rattle.std.proofs.Common.{◌≡◌, Bool, true, false, List, [], ℕ, Some, refl, sym, subst, is_some}
use Rattle.predicates_core.specs.Label.{plain, Fits}
use Rattle.predicates_core.specs.Formula.{Leaf, HasTruth}
use Rattle.predicates_core.specs.Leaves.{IsExactly}
use Rattle.predicates_core.specs.Shows.{IsCaseOf, IsNode}
use Rattle.predicates_core.specs.Tree.{Tree}
use Rattle.predicates_core.specs.Describe.{CaseNode}
use Rattle.predicates_core.proofs.Leaves.{HasTruth-exactly, IsCaseOf-leaf}
use Rattle.serde_json.specs.Data.{Data, null, boolean, number, string, array, object}
use Rattle.serde_json.specs.Find.{as_null}
use Rattle.predicates_core.specs.Present.{absent_leaf}
use Rattle.predicates_json.specs.Kinds.{kind_text}
use Rattle.predicates_json.specs.Null.{null_text, null_formula}

null-is : (d : Data) → is_some (as_null d) ≡ true → null_formula d ≡ Leaf (plain (Some null_text)) true
null-is null e = refl
null-is (boolean b) e = absurd (cc)
null-is (number n) e = absurd (cc)
null-is (string s) e = absurd (cc)
null-is (array ds) e = absurd (cc)
null-is (object ms) e = absurd (cc)

null-not : (d : Data) → is_some (as_null d) ≡ false → null_formula d ≡ absent_leaf (Some null_text) (kind_text d)
null-not null e = absurd (cc)
null-not (boolean b) e = refl
null-not (number n) e = refl
null-not (string s) e = refl
null-not (array ds) e = refl
null-not (object ms) e = refl

pub HasTruth-null : (d : Data) (b : Bool) → is_some (as_null d) ≡ b → HasTruth (IsExactly (null_formula d)) b
HasTruth-null d true e = subst (λ g. HasTruth (IsExactly g) true) (sym (null-is d e)) (HasTruth-exactly refl)
HasTruth-null d false e = subst (λ g. HasTruth (IsExactly g) false) (sym (null-not d e)) (HasTruth-exactly refl)

pub IsCaseOf-null : (d : Data) {b : Bool} {bytes : List ℕ} {t : Tree CaseNode} → is_some (as_null d) ≡ true → b ≡ true → IsNode (Some bytes) true [] t → Fits (Some null_text) bytes → IsCaseOf (IsExactly (null_formula d)) b t
IsCaseOf-null d {b} {bytes} {t} e same written fits =
    let of_null = subst (λ g. IsCaseOf (IsExactly g) true t) (sym (null-is d e)) (IsCaseOf-leaf written fits (HasTruth-exactly refl)) in
    subst (λ x. IsCaseOf (IsExactly (null_formula d)) x t) (sym same) of_null

pub IsCaseOf-not_null : (d : Data) {b : Bool} {t : Tree CaseNode} → is_some (as_null d) ≡ false → b ≡ false → IsCaseOf (IsExactly (absent_leaf (Some null_text) (kind_text d))) false t → IsCaseOf (IsExactly (null_formula d)) b t
IsCaseOf-not_null d {b} {t} e same h =
    let of_other = subst (λ g. IsCaseOf (IsExactly g) false t) (sym (null-not d e)) h in
    subst (λ x. IsCaseOf (IsExactly (null_formula d)) x t) (sym same) of_other

pub ruleset null_cases = (HasTruth-null, IsCaseOf-null, IsCaseOf-not_null)
