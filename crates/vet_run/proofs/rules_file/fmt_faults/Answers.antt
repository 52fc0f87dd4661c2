use Rattle.std.proofs.Common.{Ok, map, arith, subst}
use Rattle.std.proofs.lemmas.List.{take_all}
use Rattle.std.specs.Fmt.{DisplaysOnOk}
use Rattle.vet_run.specs.RuleFaults.{rule_fault_text, texts_of_lines, text_behind}
use Rattle.predicates_core.proofs.Listing.{nothing_written, one_text_more}
use Rattle.vet_run.proofs.Telling.{lines_last}
use Rattle.vet_run.proofs.rules_file.fmt_faults.Goals as goal

pub loop-index-init : goal.loop-index-init
loop-index-init g c = nothing_written g.W.Write.write_str_gives c.args.f.now

pub loop-index-preserved : goal.loop-index-preserved
loop-index-preserved g c =
    one_text_more g.W.Write.write_str_gives texts_of_lines text_behind lines_last rule_fault_text c.args.faults.now c.loop-index.index c.index-faults-index.result c.args.f.now c.loop-index.f c.fmt_fault.new.f
    (omega arith) c.index-faults-index.is c.loop-index.invariant c.in_ok-fmt_fault.ensures

pub returns : goal.returns
returns g c = subst (λ us. DisplaysOnOk g.W.Write.write_str_gives c.args.f.now (Ok tt) (texts_of_lines (map rule_fault_text us)) c.loop-index.f) (take_all c.loop-index.index c.args.faults.now (omega arith)) c.loop-index.invariant
