use Rattle.std.proofs.Common.{Ok, map, take}
use Rattle.std.specs.Fmt.{DisplaysOnOk}
use Rattle.vet_run.specs.RuleFaults.{rule_fault_text, texts_of_lines}
use Rattle.vet_run.proofs.rules_file.fmt_faults.Given as goal

abbrev pub invariant-loop-index : goal.invariant-loop-index
invariant-loop-index g l = DisplaysOnOk g.W.Write.write_str_gives l.initial.f (Ok tt) (texts_of_lines (map rule_fault_text (take l.index l.faults))) l.f
