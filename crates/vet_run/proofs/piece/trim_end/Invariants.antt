-- What was taken away is white space.
use Rattle.std.proofs.Common.{◌≡◌, vec_len}
use Rattle.vet_run.specs.Pieces.{trimmed}
use Rattle.vet_run.proofs.piece.trim_end.Given as goal

abbrev pub invariant-loop-byte : goal.invariant-loop-byte
invariant-loop-byte l = trimmed l.initial.bytes.items ≡ trimmed l.bytes.items

abbrev pub decreases-loop-byte : goal.decreases-loop-byte
decreases-loop-byte l = vec_len l.bytes
