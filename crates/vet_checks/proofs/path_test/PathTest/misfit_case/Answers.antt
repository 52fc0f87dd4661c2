use Rattle.std.proofs.Common.{Some, codes, subst, List, ℕ}
use Rattle.predicates_core.specs.Leaves.{IsShowing}
use Rattle.serde_json.specs.View.{view}
use Rattle.vet_checks.specs.Scopes.{place_of}
use Rattle.vet_checks.specs.CheckTrees.{found_label, shown_beside}
use Rattle.vet_checks.specs.Questions.{misfit_text}
use Rattle.vet_checks.specs.Nodes.{text_of_test}
use Rattle.vet_checks.proofs.Leaving.{one_more}
use Rattle.vet_checks.proofs.path_test.PathTest.misfit_case.Goals as goal

pub returns : goal.returns
returns c =
    let text = text_of_test c.args.self.now in
    let question = c.args.self.now.question in
    let beside = shown_beside question (place_of c.args.scope) (view c.args.value.now) in
    one_more (found_label text (view c.args.value.now) beside) (record { name = codes "error"; value = Some (misfit_text question (place_of c.args.scope)) })
    (subst (λ (bytes : List ℕ). IsShowing (codes "error") (Some bytes) c.in_ok-case.case c.in_ok-showing.field-0) c.in_ok-error.ensures c.in_ok-showing.ensures)
    c.in_ok-case.ensures
