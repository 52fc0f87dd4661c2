use Rattle.std.proofs.Common.{sym, ◌∙◌}
use Rattle.predicates_core.specs.Kinds.{changes}
use Rattle.predicates_path.proofs.ContentCases.{none_of_content, case_of_content, leaf_without_content}
use Rattle.predicates_path.proofs.content.FileContentPredicatePredicateChangeSnapshot.find_change.Goals as goal

pub returns-in_default : goal.returns-in_default
returns-in_default g c = none_of_content _ _ _ _ changes c.args.wanted c.in-Ok.bytes (sym c.content_or_fault.ensures ∙ c.in-Ok.is) (rw c.in_default.is at c.in_ok-change-in-Ok.ensures)

pub returns-in_ok-change-in-Ok-2 : goal.returns-in_ok-change-in-Ok-2
returns-in_ok-change-in-Ok-2 g c = case_of_content _ _ _ _ changes c.args.wanted c.in-Ok.bytes (sym c.content_or_fault.ensures ∙ c.in-Ok.is) c.in_ok-change-in-Ok-2.ensures (rw c.in-Some.is at c.in_ok-change-in-Ok.ensures)

pub leaf_change-requires-clause-leaf : goal.leaf_change-requires-clause-leaf
leaf_change-requires-clause-leaf g c = leaf_without_content (sym c.content_or_fault.ensures ∙ c.in-Err.is)
