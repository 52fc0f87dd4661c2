use Rattle.std.proofs.Common.{rules}
use Rattle.tests_uses.proofs.BothEvaluated.{IsFound-or_both, IsFound-or_left, IsFound-or_right}
use Rattle.tests_uses.proofs.either.whichever_case.Goals as goal

pub returns-then-result : goal.returns-then-result
returns-then-result g c = IsFound-or_left c.in_ok-over_one.ensures (search rules) (search rules) (search rules)

pub returns-then-result-2 : goal.returns-then-result-2
returns-then-result-2 g c = IsFound-or_right {c = c.in-Some.left} c.in_ok-over_one-2.ensures (search rules) (search rules) (search rules) (search rules) (search rules)

pub returns : goal.returns
returns g c = IsFound-or_both c.in_ok-over_both.ensures (search rules) (search rules) (search rules) (search rules) (search rules)
