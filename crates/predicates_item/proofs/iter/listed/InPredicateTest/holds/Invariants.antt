use Rattle.std.proofs.Common.{◌≡◌, false, take}
use Rattle.predicates_item.specs.Members.{has_equal}
use Rattle.predicates_item.proofs.iter.listed.InPredicateTest.holds.Given as goal

abbrev pub invariant-loop-member : goal.invariant-loop-member
invariant-loop-member g l = has_equal g.T.PartialEq.eq (take l.member-index l.self.members.items) l.item ≡ false
