use Rattle.std.proofs.Common.{arith}
use Rattle.vet_run.proofs.Counted.{rule_counted}
use Rattle.vet_run.proofs.judgement.count_broken.Goals as goal

pub loop-rule-preserved : goal.loop-rule-preserved
loop-rule-preserved c = rule_counted c.args.broken.now c.loop-rule.rule-index c.rule-item.result c.args.counts.now.items c.loop-rule.counts.items c.count_at.new.counts.items (omega arith) c.rule-item.is c.loop-rule.invariant c.in_ok-count_at.ensures
