use Rattle.std.proofs.Common.{Some, sym, ◌∙◌}
use Rattle.predicates_core.specs.Kinds.{reasons}
use Rattle.predicates_path.proofs.ContentCases.{case_of_content}
use Rattle.predicates_path.proofs.content.FileContentPredicatePredicateSnapshot.find_case.Goals as goal

pub returns-in_ok-show_path-in-Ok : goal.returns-in_ok-show_path-in-Ok
returns-in_ok-show_path-in-Ok g c =
    case_of_content _ _ _ _ reasons (Some c.args.expected) _ (sym c.content_or_fault.ensures ∙ c.in-Ok.is) c.in_ok-show_path-in-Ok.ensures (rw c.in-Some.is at c.in_ok-case-in-Ok.ensures)
