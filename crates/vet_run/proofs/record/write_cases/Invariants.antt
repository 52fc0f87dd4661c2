use Rattle.std.proofs.Common.{◌≡◌, ◌++◌, take}
use Rattle.std.specs.Prelude.{string_bytes, flat_map}
use Rattle.vet_run.specs.Records.{shown_lines}
use Rattle.vet_run.proofs.record.write_cases.Given as goal

abbrev pub invariant-loop-shown : goal.invariant-loop-shown
invariant-loop-shown l = string_bytes l.text ≡ string_bytes l.initial.text ++ flat_map (shown_lines l.style) (take l.shown-index l.cases)
