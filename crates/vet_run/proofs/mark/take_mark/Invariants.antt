-- What was taken is a front of the mark.
use Rattle.std.proofs.Common.{◌≡◌, take}
use Rattle.std.specs.Io.KnownBytes.{Consumes}
use Rattle.vet_rules.specs.Rules.{mark}
use Rattle.vet_run.proofs.mark.take_mark.Given as goal

abbrev pub invariant-loop-expected : goal.invariant-loop-expected
invariant-loop-expected g l = Consumes (g.R.Read.remaining l.initial.input) (g.R.Read.remaining l.input) l.front.items × (l.front.items ≡ take l.expected-index mark)
