-- What was taken ends no record, and what is kept of it is in the buffer.
use Rattle.std.proofs.Common.{false}
use Rattle.streams.proofs.Taking.{Taken}
use Rattle.streams.proofs.records.read.next_record.Given as goal

abbrev pub invariant-loop : goal.invariant-loop
invariant-loop g l = Taken (g.R.Read.remaining l.initial.input) (g.R.Read.remaining l.input) l.initial.position false l.position l.value.items l.most
