use Rattle.std.proofs.Common.{sym, ◌∙◌}
use Rattle.predicates_item.proofs.Ascending.{remaining_less, remaining_equal, remaining_greater}
use Rattle.predicates_item.proofs.iter.differences.remaining.Goals as goal

pub loop-place-preserved-in-Less : goal.loop-place-preserved-in-Less
loop-place-preserved-in-Less g c = rw c.in_ok-push-in-Less.ensures.items (remaining_less g.met.T.Ord.total g.met.T.Ord.matches_eq c.requires.members c.requires.taken c.loop-place.invariant c.loop-place-test.true (sym c.order_at.ensures ∙ c.in-Less.is) c.index-members-place.result c.index-members-place.is)

pub loop-place-preserved-in-Equal : goal.loop-place-preserved-in-Equal
loop-place-preserved-in-Equal g c = remaining_equal g.met.T.Ord.total g.met.T.Ord.matches_eq c.requires.members c.requires.taken c.loop-place.invariant c.loop-place-test.true (sym c.order_at.ensures ∙ c.in-Equal.is)

pub loop-place-preserved : goal.loop-place-preserved
loop-place-preserved g c = remaining_greater g.met.T.Ord.total g.met.T.Ord.matches_eq c.requires.members c.requires.taken c.loop-place.invariant c.loop-place-test.true (sym c.order_at.ensures ∙ c.in-Greater.is)
