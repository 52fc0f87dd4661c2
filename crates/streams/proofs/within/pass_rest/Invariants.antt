-- What was passed over is inside the line.
use Rattle.std.proofs.Common.{ℕ, List}
use Rattle.streams.specs.Steps.{IsInside}
use Rattle.streams.proofs.within.pass_rest.Given as goal

abbrev pub invariant-loop : goal.invariant-loop
invariant-loop g l = (passed : List ℕ) × IsInside (g.R.Read.remaining l.initial.input) (g.R.Read.remaining l.input) passed
