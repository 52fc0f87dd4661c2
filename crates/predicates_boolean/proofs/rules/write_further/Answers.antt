use Rattle.std.proofs.Common.{arith, map, Ok, Some, codes, subst}
use Rattle.std.proofs.lemmas.List.{take_all}
use Rattle.std.specs.Fmt.{◌++?◌, DisplaysOnOk}
use Rattle.predicates_core.specs.Several.{further_texts}
use Rattle.predicates_core.proofs.Listing.{nothing_written, one_text_more, further_last}
use Rattle.predicates_boolean.proofs.rules.write_further.Goals as goal

pub loop-rule-init : goal.loop-rule-init
loop-rule-init g c = nothing_written g.W.Write.write_str_gives c.args.f.now

pub loop-rule-preserved : goal.loop-rule-preserved
loop-rule-preserved g c = one_text_more g.W.Write.write_str_gives further_texts (λ k t. Some (codes ", ") ++? t) further_last g.P.Display.output c.args.rules.now c.loop-rule.rule-index c.rule-item.result c.args.f.now c.loop-rule.f c.write.new.self
    (omega arith) c.rule-item.is c.loop-rule.invariant c.in_ok-write.ensures.writes

pub returns : goal.returns
returns g c = subst (λ us. DisplaysOnOk g.W.Write.write_str_gives c.args.f.now (Ok tt) (further_texts (map g.P.Display.output us)) c.loop-rule.f) (take_all c.loop-rule.rule-index c.args.rules.now (omega arith)) c.loop-rule.invariant
