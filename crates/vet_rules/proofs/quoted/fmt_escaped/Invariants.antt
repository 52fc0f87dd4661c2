use Rattle.std.proofs.Common.{Some, Ok}
use Rattle.std.specs.Str.{encode_utf8_all}
use Rattle.std.specs.Fmt.{DisplaysOnOk}
use Rattle.vet_rules.proofs.quoted.fmt_escaped.Given as goal

abbrev pub invariant-loop-part : goal.invariant-loop-part
invariant-loop-part g l = DisplaysOnOk g.W.Write.write_str_gives l.initial.f (Ok tt) (Some (encode_utf8_all l.yielded)) l.f
