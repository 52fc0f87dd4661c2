use Rattle.std.proofs.Common.{take, map}
use Rattle.vet_rules.specs.Printing.{Lays, written_sign}
use Rattle.vet_rules.proofs.layout.fmt_tokens.Given as goal

abbrev pub invariant-loop-token : goal.invariant-loop-token
invariant-loop-token g l = Lays g.W.Write.write_str_gives l.initial.f l.at_once (map written_sign (take l.token-index l.tokens)) l.next l.f
