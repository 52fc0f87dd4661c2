use Rattle.std.proofs.Common.{refl, sym, ◌∙◌}
use Rattle.predicates_path.proofs.ContentCases.{HasTruth-no_content}
use Rattle.predicates_path.proofs.content.FileContentPredicatePredicateSnapshot.eval.Goals as goal

pub returns-in-Err-clause-truth : goal.returns-in-Err-clause-truth
returns-in-Err-clause-truth g c = HasTruth-no_content (sym c.content_or_fault.ensures ∙ c.in-Err.is) refl
