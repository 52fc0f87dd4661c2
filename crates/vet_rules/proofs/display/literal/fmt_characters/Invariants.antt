use Rattle.std.proofs.Common.{Some, Ok, ℕ}
use Rattle.std.specs.List.{flat_map}
use Rattle.std.specs.Char.{encode_utf8}
use Rattle.std.specs.Fmt.{DisplaysOnOk}
use Rattle.json.specs.Print.{escape}
use Rattle.vet_rules.proofs.display.literal.fmt_characters.Given as goal

abbrev pub invariant-loop-c : goal.invariant-loop-c
invariant-loop-c g l = DisplaysOnOk g.W.Write.write_str_gives l.initial.f (Ok tt) (Some (flat_map (λ (c : ℕ). escape (encode_utf8 c)) l.yielded)) l.f
