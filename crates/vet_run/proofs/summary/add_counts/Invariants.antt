use Rattle.std.proofs.Common.{◌≡◌, length, map, take}
use Rattle.vet_run.specs.Sums.{both_rules, named_of}
use Rattle.vet_run.proofs.summary.add_counts.Given as goal

abbrev pub invariant-loop-index : goal.invariant-loop-index
invariant-loop-index l = record {
  added : map named_of l.rules.items ≡ both_rules (map named_of l.initial.rules.items) (take l.index (map named_of l.others));
  long : length l.rules.items ≡ length l.initial.rules.items;
}
