use Rattle.regex.proofs.ForCallers.{count_of_find_iter}
use Rattle.predicates_text.proofs.expressions.regex_search.match_count.Goals as goal

pub returns : goal.returns
returns c = count_of_find_iter _ _ _ (rw c.in_ok-matcher.ensures.pattern at c.find_iter.ensures.found) c.count.ensures.ran
