use Rattle.std.proofs.Common.{arith}
use Rattle.predicates_core.specs.Change.{ExplainsChange}
use Rattle.serde_json.specs.View.{view}
use Rattle.vet_run.proofs.Keeping.{shown_more}
use Rattle.vet_run.proofs.record.changes_of.Goals as goal

pub loop-broken-preserved : goal.loop-broken-preserved
loop-broken-preserved c = shown_more ExplainsChange (view c.args.value.now) c.args.rules.now c.loop-broken.broken-index c.broken-item.result c.loop-broken.cases.items c.add_change.new.cases.items
    (omega arith) c.broken-item.is c.requires c.loop-broken.invariant c.in_ok-add_change.ensures
