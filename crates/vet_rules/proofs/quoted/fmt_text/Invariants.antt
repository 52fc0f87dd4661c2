use Rattle.std.proofs.Common.{Some, map, take, length}
use Rattle.std.specs.Str.{chars}
use Rattle.vet_rules.specs.Quoting.{AreShown, character_text}
use Rattle.vet_rules.proofs.quoted.fmt_text.Given as goal

abbrev pub invariant-loop-character : goal.invariant-loop-character
invariant-loop-character g l = AreShown g.W.Write.write_str_gives l.initial.f l.most (map character_text (take (length l.yielded) (chars l.text))) (Some l.left) l.f
