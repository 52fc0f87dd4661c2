use Rattle.std.proofs.Common.{◌-◌, ◌≤◌}
use Rattle.predicates_reflection.proofs.FirstTrees.{EndAt}
use Rattle.predicates_reflection.proofs.reflection.case.end_of_first.Given as goal

abbrev pub invariant-loop-count : goal.invariant-loop-count
invariant-loop-count l = EndAt l.entries l.count l.end × (l.count ≤ l.number)

abbrev pub decreases-loop-count : goal.decreases-loop-count
decreases-loop-count l = l.number - l.count
