use Rattle.std.proofs.Common.{◌≡◌, ◌+◌, drop, option_map, false}
use Rattle.vet_rules.specs.Lexemes.{text_end}
use Rattle.vet_rules.proofs.lexer.quoted_len.Given as goal

abbrev pub invariant-loop-i : goal.invariant-loop-i
invariant-loop-i l = option_map (λ n. l.i + n) (text_end l.escaped (drop l.i l.text)) ≡ text_end false l.text
