use Rattle.predicates_text.specs.PlaceLaws.{eq_ignore_case_decides, same_test}
use Rattle.predicates_text.proofs.search.eq_ignore_case.Goals as goal

pub returns-clause-value : goal.returns-clause-value
returns-clause-value c = same_test _ _ c.default_caseless_match_str.ensures (eq_ignore_case_decides _ _)
