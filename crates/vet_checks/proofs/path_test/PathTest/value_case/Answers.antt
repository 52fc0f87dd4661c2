use Rattle.std.proofs.Common.{rules, None, subst, List, ℕ}
use Rattle.predicates_core.specs.Leaves.{IsExactly}
use Rattle.predicates_core.specs.Shows.{IsCaseOf}
use Rattle.serde_json.specs.View.{view}
use Rattle.vet_checks.specs.Scopes.{place_of}
use Rattle.vet_checks.specs.CheckTrees.{found_leaf, shown_beside}
use Rattle.vet_checks.specs.Nodes.{text_of_test}
use Rattle.vet_checks.proofs.Leaving.{case_beside}
use Rattle.vet_checks.proofs.path_test.PathTest.value_case.Goals as goal

pub returns : goal.returns
returns c = case_beside (text_of_test c.args.self.now) (view c.args.value.now) (shown_beside c.args.self.now.question (place_of c.args.scope) (view c.args.value.now)) c.in_ok-shown.ensures
    (subst (λ (bytes : List ℕ). IsCaseOf (IsExactly (found_leaf bytes (view c.args.value.now) None c.args.holds)) c.args.holds c.in_ok-case.case) (search rules) c.in_ok-case.ensures)
