use Rattle.std.proofs.Common.{◌≡◌, [], map}
use Rattle.std.specs.Prelude.{string_bytes, replicate}
use Rattle.vet_run.proofs.tally.no_blocks.Given as goal

abbrev pub invariant-loop : goal.invariant-loop
invariant-loop l = map string_bytes l.blocks.items ≡ replicate l.counter []
