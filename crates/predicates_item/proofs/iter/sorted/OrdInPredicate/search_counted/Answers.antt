use Rattle.std.proofs.Common.{arith}
use Rattle.std.proofs.lemmas.List.Sorted.{searchable_from_sorted}
use Rattle.predicates_item.proofs.Halving.{left_at_start, can_count, chosen, found_at_end, left_now}
use Rattle.predicates_item.proofs.iter.sorted.OrdInPredicate.search_counted.Goals.{then-is_eq, else-is_eq, then-is_lt, else-is_lt}
use Rattle.predicates_item.proofs.iter.sorted.OrdInPredicate.search_counted.Goals as goal

pub loop-left-init : goal.loop-left-init
loop-left-init g c = rw c.as_slice-members.ensures.value (left_at_start c.clear.ensures)

pub add_one-requires : goal.add_one-requires
add_one-requires g c = can_count c.loop-left.invariant c.loop-left-test.true (omega (arith, c.args.self.now.members.ok, c.args.self.now.members.small))

pub loop-left-preserved : goal.loop-left-preserved
loop-left-preserved g c =
    left_now c.loop-left.invariant g.T.Ord.cmp g.met.T.Ord.matches_eq (searchable_from_sorted g.met.T.Ord.total (λ x. x) c.args.self.now.members.items c.args.item.now c.args.self.now.sorted) c.loop-left-test.true (omega arith) c.as_slice-members.ensures.value c.index-members-end.is c.cmp-order.result c.cmp-order.ensures c.add_one.ensures
    (elim c.if-is_lt.branch [ then-is_lt w ↦ chosen _ _ w.if-is_lt.ensures w.base-is | else-is_lt w ↦ chosen _ _ w.if-is_lt.ensures w.base-is ])
    (elim c.if-is_eq.branch [ then-is_eq w ↦ chosen _ _ w.if-is_eq.ensures w.found-is | else-is_eq w ↦ chosen _ _ w.if-is_eq.ensures w.found-is ])

pub returns-clause-member : goal.returns-clause-member
returns-clause-member g c = found_at_end c.loop-left.invariant (omega arith)
