-- A check has the one formula that its tree says, on items of a record as on their data.
use Rattle.std.proofs.Common.{◌≡◌, Bool, Option, Some, option_map, map, refl, sym, subst}
use Rattle.predicates_core.specs.Change.{IsFoundChange}
use Rattle.predicates_core.specs.Describe.{CaseNode}
use Rattle.predicates_core.specs.Formula.{Formula, HasTruth}
use Rattle.predicates_core.specs.Kinds.{reasons, changes}
use Rattle.predicates_core.specs.Leaves.{IsExactly}
use Rattle.predicates_core.specs.Shows.{IsFound}
use Rattle.predicates_core.specs.Tree.{Tree}
use Rattle.predicates_core.proofs.Fewer.{truth_of_fewer, fewer_found}
use Rattle.predicates_tree.specs.Formulas.{HasFormula}
use Rattle.predicates_tree.specs.Laws.{has_tree, all_leaves}
use Rattle.predicates_tree.specs.Trees.{AllLeaves}
use Rattle.vet_checks.specs.declared.scope.Scope.{Scope}
use Rattle.vet_checks.specs.Lists.{places_at}
use Rattle.vet_checks.specs.Nodes.{text_of_test, path_of_view}
use Rattle.vet_checks.specs.CheckTrees.{CheckTree, test_formula, absence_at, check_formula}
use Rattle.vet_checks.specs.Scopes.{place_of}

-- f is a formula of the check on the item, as the library has it
abbrev pub HasCheckFormula : Scope → CheckTree → Formula → Type 0
HasCheckFormula s e = HasFormula (λ t. Some (text_of_test t)) (λ v. Some (path_of_view v))
    (λ t u. IsExactly (test_formula t (place_of u)))
    (λ v u o. option_map (map place_of) o ≡ places_at (path_of_view v) (place_of u))
    (λ v u. absence_at (path_of_view v) (place_of u)) s e

-- nothing is asked of the tests
pub all_lawful : (e : CheckTree) → AllLeaves (λ _. Unit {0}) e
all_lawful e = all_leaves (λ _. Unit {0}) (λ _. tt) e

module _ (s : Scope) (e : CheckTree) where
  pub has_check_formula : HasCheckFormula s e (check_formula e (place_of s))
  has_check_formula = has_tree (λ t. Some (text_of_test t)) (λ v. Some (path_of_view v))
      (λ t u. IsExactly (test_formula t (place_of u)))
      (λ v u o. option_map (map place_of) o ≡ places_at (path_of_view v) (place_of u))
      (λ v u. absence_at (path_of_view v) (place_of u)) place_of test_formula
      (λ v. places_at (path_of_view v)) (λ v. absence_at (path_of_view v))
      (λ t u. record { is = refl }) (λ v u o is. is) (λ v u. refl) s e

  fewer : (f : Formula) → IsExactly (check_formula e (place_of s)) f → HasCheckFormula s e f
  fewer f h = subst (HasCheckFormula s e) (sym h.is) has_check_formula

  pub truth_of_check : {b : Bool} → HasTruth (HasCheckFormula s e) b → HasTruth (IsExactly (check_formula e (place_of s))) b
  truth_of_check h = truth_of_fewer fewer h

  pub found_of_check : (w : Option Bool) (found : Option (Tree CaseNode)) → IsFound (HasCheckFormula s e) w found → IsFound (IsExactly (check_formula e (place_of s))) w found
  found_of_check w found h = fewer_found reasons w found fewer h

  pub change_of_check : (w : Option Bool) (found : Option (Tree CaseNode)) → IsFoundChange (HasCheckFormula s e) w found → IsFoundChange (IsExactly (check_formula e (place_of s))) w found
  change_of_check w found h = fewer_found changes w found fewer h
