use Rattle.predicates_item.proofs.Referred.{sorted_there, missing_is, extra_is}
use Rattle.predicates_item.proofs.iter.differences.Differences.between.Goals as goal

pub remaining-requires-clause-members : goal.remaining-requires-clause-members
remaining-requires-clause-members g c = rw c.as_slice.ensures.value (sorted_there g.T.Ord.cmp c.in_ok-members.members.items c.args.members.now c.in_ok-members.ensures c.requires)

pub remaining-requires-2-clause-taken : goal.remaining-requires-2-clause-taken
remaining-requires-2-clause-taken g c = rw c.as_slice-4.ensures.value (sorted_there g.T.Ord.cmp c.in_ok-members.members.items c.args.members.now c.in_ok-members.ensures c.requires)

pub returns-clause-missing : goal.returns-clause-missing
returns-clause-missing g c = missing_is g.met.T.Eq.laws g.met.T.Ord.total c.in_ok-list.list.items c.sort.new.self.items c.in_ok-list.ensures c.in_ok-sort.ensures.sorted c.in_ok-sort.ensures.stable c.in_ok-members.members.items c.in_ok-members.ensures (rw c.as_slice.ensures.value at (rw c.as_slice-2.ensures.value at c.in_ok-missing.ensures))

pub returns-clause-extra : goal.returns-clause-extra
returns-clause-extra g c = extra_is g.met.T.Eq.laws g.met.T.Ord.total c.in_ok-list.list.items c.sort.new.self.items c.in_ok-list.ensures c.in_ok-sort.ensures.sorted c.in_ok-sort.ensures.stable c.in_ok-members.members.items c.in_ok-members.ensures (rw c.as_slice-3.ensures.value at (rw c.as_slice-4.ensures.value at c.in_ok-extra.ensures))
