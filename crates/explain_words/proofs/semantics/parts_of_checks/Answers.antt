use Rattle.explain_words.proofs.PartsOfChecks.{means_by_parts, is_like_parts}
use Rattle.explain_words.proofs.semantics.parts_of_checks.Goals as goal

pub returns-clause-formula : goal.returns-clause-formula
returns-clause-formula c = means_by_parts c.args.check.now c.args.text.now

pub returns-clause-own : goal.returns-clause-own
returns-clause-own c = is_like_parts c.args.check.now
