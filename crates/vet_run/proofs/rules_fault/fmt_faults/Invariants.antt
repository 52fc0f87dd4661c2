use Rattle.std.proofs.Common.{Ok, map, take}
use Rattle.std.specs.Fmt.{DisplaysOnOk}
use Rattle.vet_run.specs.RuleFaults.{rule_fault_text, joined_texts, told_line}
use Rattle.vet_run.proofs.rules_fault.fmt_faults.Given as goal

abbrev pub invariant-loop-fault : goal.invariant-loop-fault
invariant-loop-fault g l = DisplaysOnOk g.W.Write.write_str_gives l.initial.f (Ok tt) (joined_texts (map (λ fault. told_line l.path (rule_fault_text fault)) (take l.fault-index l.faults))) l.f
