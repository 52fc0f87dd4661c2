use Rattle.std.proofs.Common.{rules}
use Rattle.predicates_require.specs.Told.{one}
use Rattle.predicates_require.proofs.rules.add_failure.Goals as goal

pub returns-in_ok-push-in-Some-clause-added : goal.returns-in_ok-push-in-Some-clause-added
returns-in_ok-push-in-Some-clause-added g c = one c.in-Some.case (search rules) (search rules)
