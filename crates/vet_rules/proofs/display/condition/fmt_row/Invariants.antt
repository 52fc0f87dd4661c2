use Rattle.std.proofs.Common.{take, map}
use Rattle.vet_rules.specs.Printing.{Lays, row_signs}
use Rattle.vet_rules.proofs.display.condition.fmt_row.Given as goal

abbrev pub invariant-loop-index : goal.invariant-loop-index
invariant-loop-index g l = Lays g.W.Write.write_str_gives l.initial.f l.at_once (row_signs (map g.T.Element.sign (map g.T.Element.value (take l.index l.elements)))) l.next l.f
