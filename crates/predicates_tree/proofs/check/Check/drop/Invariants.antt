use Rattle.predicates_tree.specs.Sizes.{left_over}
use Rattle.predicates_tree.proofs.check.Check.drop.Given as goal

abbrev pub decreases-loop-next : goal.decreases-loop-next
decreases-loop-next g l = left_over l.self l.waiting
