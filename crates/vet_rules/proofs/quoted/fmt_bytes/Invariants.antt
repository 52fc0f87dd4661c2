use Rattle.std.proofs.Common.{Some, map, take}
use Rattle.vet_rules.specs.Quoting.{AreShown, byte_text}
use Rattle.vet_rules.proofs.quoted.fmt_bytes.Given as goal

abbrev pub invariant-loop-byte : goal.invariant-loop-byte
invariant-loop-byte g l = AreShown g.W.Write.write_str_gives l.initial.f l.most (map byte_text (take l.byte-index l.bytes)) (Some l.left) l.f
