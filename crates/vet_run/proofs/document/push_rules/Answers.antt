use Rattle.std.proofs.Common.{rules, arith}
use Rattle.vet_run.proofs.Documents.{rule_more}
use Rattle.vet_run.proofs.document.push_rules.Goals as goal

pub loop-index-preserved : goal.loop-index-preserved
loop-index-preserved c = rule_more c.args.rules.now c.loop-index.index c.index-rules-index.result c.args.counts.now _ c.loop-index.text.items _ _ (omega arith) c.index-rules-index.is c.loop-index.invariant (search rules)
