use Rattle.std.proofs.Common.{◌≡◌, ◌+◌, drop}
use Rattle.std.specs.List.{prefix_len}
use Rattle.vet_rules.specs.Lexemes.{continues}
use Rattle.vet_rules.proofs.lexer.run_len.Given as goal

abbrev pub invariant-loop-i : goal.invariant-loop-i
invariant-loop-i l = l.i + prefix_len (continues l.class) (drop l.i l.text) ≡ prefix_len (continues l.class) l.text
