-- What was taken is a front of what is shown, and ends no record.
use Rattle.std.proofs.Common.{take, false}
use Rattle.streams.specs.Runs.{Takes}
use Rattle.streams.proofs.records.read.take_shown.Given as goal

abbrev pub invariant-loop-index : goal.invariant-loop-index
invariant-loop-index l = Takes l.initial.position (take l.index l.shown) false l.position l.initial.value.items l.value.items l.most
