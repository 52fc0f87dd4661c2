-- What was taken is a front of the line.
use Rattle.streams.specs.Steps.{IsInside}
use Rattle.streams.proofs.within.take_front.Given as goal

abbrev pub invariant-loop : goal.invariant-loop
invariant-loop g l = IsInside (g.R.Read.remaining l.initial.input) (g.R.Read.remaining l.input) l.line.items
