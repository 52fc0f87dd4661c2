use Rattle.std.proofs.Common.{◌≡◌, ◌++◌, take}
use Rattle.vet_run.specs.GitHub.{message_text}
use Rattle.vet_run.proofs.github.push_message.Given as goal

abbrev pub invariant-loop-byte : goal.invariant-loop-byte
invariant-loop-byte l = l.line.items ≡ l.initial.line.items ++ message_text (take l.byte-index l.text)
