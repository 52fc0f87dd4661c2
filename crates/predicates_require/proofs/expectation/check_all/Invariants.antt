use Rattle.std.proofs.Common.{take}
use Rattle.predicates_require.specs.Told.{HasFailures}
use Rattle.predicates_require.specs.Expected.{expected, IsFailure}
use Rattle.predicates_require.proofs.expectation.check_all.Given as goal

abbrev pub invariant-loop-expectation : goal.invariant-loop-expectation
invariant-loop-expectation g l = HasFailures (expected g.P.Predicate.formula) (IsFailure g.P.Predicate.formula)
    (take l.expectation-index l.expectations) l.failures.items
