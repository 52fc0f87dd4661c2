use Rattle.std.proofs.Common.{Ok, map, arith, subst}
use Rattle.std.proofs.lemmas.List.{take_all}
use Rattle.std.specs.Fmt.{DisplaysOnOk}
use Rattle.vet_run.specs.RuleFaults.{rule_fault_text, joined_texts, told_line}
use Rattle.predicates_core.proofs.Listing.{nothing_written, one_text_more}
use Rattle.vet_run.proofs.Telling.{joined_last}
use Rattle.vet_run.proofs.rules_fault.fmt_faults.Goals as goal

pub loop-fault-init : goal.loop-fault-init
loop-fault-init g c = nothing_written g.W.Write.write_str_gives c.args.f.now

pub loop-fault-preserved : goal.loop-fault-preserved
loop-fault-preserved g c =
    one_text_more g.W.Write.write_str_gives joined_texts (λ k t. t) joined_last (λ fault. told_line c.args.path.now (rule_fault_text fault)) c.args.faults.now c.loop-fault.fault-index c.fault-item.result c.args.f.now c.loop-fault.f c.writeln.new.self
    (omega arith) c.fault-item.is c.loop-fault.invariant c.in_ok-writeln.ensures.writes

pub returns : goal.returns
returns g c = subst (λ us. DisplaysOnOk g.W.Write.write_str_gives c.args.f.now (Ok tt) (joined_texts (map (λ fault. told_line c.args.path.now (rule_fault_text fault)) us)) c.loop-fault.f) (take_all c.loop-fault.fault-index c.args.faults.now (omega arith)) c.loop-fault.invariant
