use Rattle.std.proofs.Common.{take}
use Rattle.vet_rules.specs.Printing.{Lays}
use Rattle.vet_rules.proofs.Laying.{parts_signs}
use Rattle.vet_rules.proofs.display.expression.+printing.Given as goal

abbrev pub invariant-fmt_row-loop-index : goal.invariant-fmt_row-loop-index
invariant-fmt_row-loop-index g l = Lays g.W.Write.write_str_gives l.initial.f l.at_once (parts_signs l.separator (take l.index l.parts)) l.next l.f
