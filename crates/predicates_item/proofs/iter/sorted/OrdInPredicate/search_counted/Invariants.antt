use Rattle.predicates_item.proofs.Halving.{IsLeft}
use Rattle.predicates_item.proofs.iter.sorted.OrdInPredicate.search_counted.Given as goal

abbrev pub invariant-loop-left : goal.invariant-loop-left
invariant-loop-left g l = IsLeft g.T.PartialEq.eq l.item l.self.members.items l.steps l.base l.left l.found

abbrev pub decreases-loop-left : goal.decreases-loop-left
decreases-loop-left g l = l.left
