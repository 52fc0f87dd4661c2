use Rattle.std.proofs.Common.{◌≡◌, ◌++◌, take}
use Rattle.vet_run.specs.GitHub.{property_text}
use Rattle.vet_run.proofs.github.push_property.Given as goal

abbrev pub invariant-loop-byte : goal.invariant-loop-byte
invariant-loop-byte l = l.line.items ≡ l.initial.line.items ++ property_text (take l.byte-index l.text)
