use Rattle.std.proofs.Common.{sym, ◌∙◌}
use Rattle.predicates_core.specs.Kinds.{reasons}
use Rattle.predicates_path.proofs.ContentCases.{none_of_content, case_of_content, none_without_content, case_without_content}
use Rattle.predicates_path.proofs.content.FileContentPredicatePredicateSnapshot.explain.Goals as goal

pub returns-in_default : goal.returns-in_default
returns-in_default g c = none_of_content _ _ _ _ reasons c.args.wanted c.in-Ok.bytes (sym c.content_or_fault.ensures ∙ c.in-Ok.is) (rw c.in_default.is at c.in_ok-case-in-Ok.ensures)

pub returns-in_ok-case-in-Ok-2 : goal.returns-in_ok-case-in-Ok-2
returns-in_ok-case-in-Ok-2 g c = case_of_content _ _ _ _ reasons c.args.wanted c.in-Ok.bytes (sym c.content_or_fault.ensures ∙ c.in-Ok.is) c.in_ok-case-in-Ok-2.ensures (rw c.in-Some.is at c.in_ok-case-in-Ok.ensures)

pub returns-then-is_other : goal.returns-then-is_other
returns-then-is_other g c = none_without_content _ _ _ _ c.args.wanted _ (sym c.content_or_fault.ensures ∙ c.in-Err.is) (rw (← c.is_other.ensures) c.if-is_other.true)

pub returns-in_ok-no_content-in-Err : goal.returns-in_ok-no_content-in-Err
returns-in_ok-no_content-in-Err g c = case_without_content _ _ _ _ c.args.wanted _ (sym c.content_or_fault.ensures ∙ c.in-Err.is) (rw (← c.is_other.ensures) c.if-is_other.false) c.in_ok-no_content-in-Err.ensures
