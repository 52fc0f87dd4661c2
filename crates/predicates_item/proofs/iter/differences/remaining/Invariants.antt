use Rattle.std.proofs.Common.{length, ◌-◌, ◌+◌}
use Rattle.predicates_item.proofs.Ascending.{IsRemaining}
use Rattle.predicates_item.proofs.iter.differences.remaining.Given as goal

abbrev pub invariant-loop-place : goal.invariant-loop-place
invariant-loop-place g l = IsRemaining g.T.PartialEq.eq l.members l.taken l.remaining.items l.place l.past

abbrev pub decreases-loop-place : goal.decreases-loop-place
decreases-loop-place g l = (length l.members - l.place) + (length l.taken - l.past)
