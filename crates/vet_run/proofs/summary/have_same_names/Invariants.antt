use Rattle.std.proofs.Common.{◌≡◌, length, take}
use Rattle.vet_run.specs.Sums.{rule_names}
use Rattle.vet_run.proofs.summary.have_same_names.Given as goal

abbrev pub invariant-loop-index : goal.invariant-loop-index
invariant-loop-index l = record {
  long : length l.left ≡ length l.right;
  same : rule_names (take l.index l.left) ≡ rule_names (take l.index l.right);
}
