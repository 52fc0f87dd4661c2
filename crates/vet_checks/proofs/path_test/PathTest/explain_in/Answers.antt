use Rattle.std.proofs.Common.{Option, Some, Bool, sym, ap, subst, ◌∙◌, false}
use Rattle.std.specs.Option.{unwrap_or}
use Rattle.predicates_core.specs.Asked.{is_other}
use Rattle.predicates_core.specs.Leaves.{IsExactly}
use Rattle.predicates_core.specs.Shows.{IsFound}
use Rattle.predicates_core.proofs.Found.{case_wanted}
use Rattle.predicates_core.proofs.Leaves.{other_leaf}
use Rattle.vet_checks.specs.CheckTrees.{answer_leaf}
use Rattle.vet_checks.specs.Nodes.{text_of_test, path_of_test}
use Rattle.vet_checks.specs.Scopes.{place_of, stands}
use Rattle.vet_checks.proofs.path_test.PathTest.explain_in.Goals as goal

pub returns-then-is_other : goal.returns-then-is_other
returns-then-is_other c =
    let own = c.unwrap_or.ensures ∙ ap (λ answer. unwrap_or answer false) c.in_ok-answer.ensures in
    other_leaf _ _ c.args.wanted (ap (is_other c.args.wanted) (sym own) ∙ sym c.is_other.ensures ∙ c.if-is_other.true)

pub returns : goal.returns
returns c =
    let test = c.args.self.now in
    let place = place_of c.args.scope in
    let found = stands (path_of_test test) place in
    subst (λ (answer : Option Bool). IsFound (IsExactly (answer_leaf (text_of_test test) (path_of_test test) test.question place found answer)) c.args.wanted (Some c.in_ok-case.case)) c.in_ok-answer.ensures
    (case_wanted c.args.wanted c.in_ok-case.ensures (ap (is_other c.args.wanted) (sym c.unwrap_or.ensures) ∙ sym c.is_other.ensures ∙ c.if-is_other.false))
