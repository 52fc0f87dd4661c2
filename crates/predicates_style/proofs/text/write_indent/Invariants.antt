use Rattle.std.proofs.Common.{◌≡◌, ◌++◌, string_bytes}
use Rattle.predicates_reflection.specs.Lines.{indented}
use Rattle.predicates_style.proofs.text.write_indent.Given as goal

abbrev pub invariant-loop : goal.invariant-loop
invariant-loop l = string_bytes l.out ≡ string_bytes l.initial.out ++ indented l.counter
