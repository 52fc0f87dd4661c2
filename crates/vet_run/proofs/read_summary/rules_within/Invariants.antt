use Rattle.std.proofs.Common.{◌≡◌, Some, map, take}
use Rattle.serde_json.specs.View.{items_view}
use Rattle.vet_run.specs.Sums.{named_of, rules_within}
use Rattle.vet_run.proofs.read_summary.rules_within.Given as goal

abbrev pub invariant-loop-value : goal.invariant-loop-value
invariant-loop-value l = rules_within (items_view (take l.value-index l.values)) ≡ Some (map named_of l.rules.items)
