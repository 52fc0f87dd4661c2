use Rattle.std.proofs.Common.{◌≡◌, ◌≤◌, take}
use Rattle.vet_run.specs.JUnit.{failures}
use Rattle.vet_run.proofs.document.failures.Given as goal

abbrev pub invariant-loop-count : goal.invariant-loop-count
invariant-loop-count l = record {
  number : l.number ≡ failures (take l.count-index l.counts);
  small : l.number ≤ l.count-index;
}
