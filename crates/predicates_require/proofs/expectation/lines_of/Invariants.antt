use Rattle.std.proofs.Common.{◌≡◌, flat_map, take, string_bytes}
use Rattle.predicates_require.specs.Expected.{failure_text}
use Rattle.predicates_require.proofs.expectation.lines_of.Given as goal

abbrev pub invariant-loop-failure : goal.invariant-loop-failure
invariant-loop-failure l = string_bytes l.lines ≡ flat_map failure_text (take l.failure-index l.failures)
