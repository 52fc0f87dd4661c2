use Rattle.std.proofs.Common.{map, take}
use Rattle.std.specs.List.{AllZip}
use Rattle.predicates_core.specs.Change.{ExplainsChange}
use Rattle.serde_json.specs.View.{view}
use Rattle.vet_run.specs.Judgements.{rule_of}
use Rattle.vet_run.specs.Records.{IsShown}
use Rattle.vet_run.proofs.record.changes_of.Given as goal

abbrev pub invariant-loop-broken : goal.invariant-loop-broken
invariant-loop-broken l = AllZip (IsShown ExplainsChange (view l.value)) (map rule_of (take l.broken-index l.rules)) l.cases.items
