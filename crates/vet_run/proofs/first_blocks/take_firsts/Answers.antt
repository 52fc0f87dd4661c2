use Rattle.std.proofs.Common.{arith, map}
use Rattle.std.specs.Prelude.{string_bytes}
use Rattle.serde_json.specs.View.{view}
use Rattle.vet_run.proofs.Firsts.{one_taken}
use Rattle.vet_run.proofs.Keeping.{broken_at}
use Rattle.vet_run.proofs.first_blocks.take_firsts.Goals as goal

pub take_at-requires : goal.take_at-requires
take_at-requires c = broken_at (view c.args.record.now.value.now) c.args.broken.now c.loop-rule.rule-index c.rule-item.result (omega arith) c.rule-item.is c.requires

pub loop-rule-preserved : goal.loop-rule-preserved
loop-rule-preserved c = one_taken c.args.job.now c.args.record.now.number (view c.args.record.now.value.now)
    c.args.broken.now c.loop-rule.rule-index c.rule-item.result _ (map string_bytes c.loop-rule.blocks.items) _
    (omega arith) c.rule-item.is c.loop-rule.invariant c.in_ok-take_at.ensures
