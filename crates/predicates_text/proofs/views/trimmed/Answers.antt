use Rattle.std.proofs.Common.{rules}
use Rattle.predicates_text.proofs.Trimming.{view_of_trim, trimmed_stays}
use Rattle.predicates_text.proofs.views.trimmed.Goals as goal

pub returns-clause-again : goal.returns-clause-again
returns-clause-again c = trimmed_stays c.from_str.result c.args.text.now (search (rules, view_of_trim))
