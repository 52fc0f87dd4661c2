use Rattle.std.proofs.Common.{rules}
use Rattle.tests_uses.proofs.BothEvaluated.{IsCaseOf-or_both, IsCaseOf-or_left, IsCaseOf-or_right}
use Rattle.tests_uses.proofs.either.wanted_case.Goals as goal

pub returns-in_ok-over_one-in-None-2 : goal.returns-in_ok-over_one-in-None-2
returns-in_ok-over_one-in-None-2 g c = IsCaseOf-or_right c.in_ok-over_one-in-None-2.ensures (search rules) (search rules) (search rules) (search rules)

pub returns-in_ok-over_one-in-Some : goal.returns-in_ok-over_one-in-Some
returns-in_ok-over_one-in-Some g c = IsCaseOf-or_left c.in_ok-over_one-in-Some.ensures (search rules) (search rules) (search rules)

pub returns-in_ok-over_both-in-Some-2 : goal.returns-in_ok-over_both-in-Some-2
returns-in_ok-over_both-in-Some-2 g c = IsCaseOf-or_both c.in_ok-over_both-in-Some-2.ensures (search rules) (search rules) (search rules) (search rules)
