use Rattle.std.proofs.Common.{◌≡◌, ◌++◌, take}
use Rattle.std.specs.Prelude.{option_map, flat_map}
use Rattle.vet_run.specs.Records.{error_of}
use Rattle.vet_run.proofs.annotations.push_errors.Given as goal

abbrev pub invariant-loop-shown : goal.invariant-loop-shown
invariant-loop-shown l = l.lines.items ≡ l.initial.lines.items ++ flat_map (error_of l.position.style.now (option_map (λ s. s.now) l.position.file) l.position.line l.position.opening.now) (take l.shown-index l.cases)
