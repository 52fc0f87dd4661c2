use Rattle.std.proofs.Common.{rules}
use Rattle.predicates_text.proofs.CaseFolding.{view_of_fold, fold_stays}
use Rattle.predicates_text.proofs.views.case_folded.Goals as goal

pub returns-clause-again : goal.returns-clause-again
returns-clause-again c = fold_stays _ c.args.text.now (search (rules, view_of_fold))
