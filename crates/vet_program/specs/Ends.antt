-- The status of each end of the program.
use Rattle.std.specs.Prelude.{ℕ, true, false}
use Rattle.vet_run.specs.Counting.{status_of}
use Rattle.vet_program.specs.declared.end.End.{End}
use Rattle.vet_program.specs.declared.end.End.TheVariants.{Helped, Refused, Stopped, Ran}

abbrev pub status_of_end : End → ℕ
status_of_end Helped = 0
status_of_end Refused = 2
status_of_end Stopped = 2
status_of_end (Ran counts true) = status_of counts
status_of_end (Ran counts false) = 2
