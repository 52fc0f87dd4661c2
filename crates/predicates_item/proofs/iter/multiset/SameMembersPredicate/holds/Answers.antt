use Rattle.std.proofs.Common.{◌∙◌, arith}
use Rattle.predicates_item.specs.Multiset.{members_of}
use Rattle.predicates_item.proofs.Multisets.{other_lengths}
use Rattle.predicates_item.proofs.Referred.{none_lack_there}
use Rattle.predicates_item.proofs.iter.multiset.SameMembersPredicate.holds.Goals as goal

pub returns-then-list-len-clause-truth : goal.returns-then-list-len-clause-truth
returns-then-list-len-clause-truth g c = other_lengths g.met.T.Eq.laws (members_of c.args.self.now) c.args.list.now (λ same. c.if-list-len.true (omega (arith, same, c.len.ensures, c.args.self.now.members.ok)))

pub returns-clause-truth : goal.returns-clause-truth
returns-clause-truth g c = c.are_none.ensures ∙ none_lack_there g.met.T.Eq.laws g.T.Ord.cmp (members_of c.args.self.now) c.args.list.now c.in_ok-found.found.missing.items c.in_ok-found.found.extra.items (rw c.as_slice.ensures.value at c.in_ok-found.ensures.missing) (rw c.as_slice.ensures.value at c.in_ok-found.ensures.extra)
