use Rattle.std.proofs.Common.{ap, ◌∙◌, ◌-◌}
use Rattle.predicates_item.specs.Multiset.{ascending, count_of}
use Rattle.predicates_item.proofs.GivenItems.{gives_collected}
use Rattle.predicates_item.proofs.Multisets.{same_by_counts, counts_of_same, count_difference, count_ascending}
use Rattle.predicates_item.proofs.Referred.{sorted_stably}
use Rattle.predicates_item.proofs.iter.any_order.same_members.Goals as goal

pub returns-clause-items : goal.returns-clause-items
returns-clause-items g c =
    let ran = c.in_ok-members.ensures.ran in
    record {
      items = c.in_ok-members.members.items;
      given = gives_collected ran.0 ran.1 ran.2 ran.3 tt ran.4.0;
      is = sorted_stably g.T.Ord.cmp g.met.T.Ord.total c.in_ok-members.members.items c.sort.new.self.items c.in_ok-sort.ensures.sorted c.in_ok-sort.ensures.stable;
    }

pub returns-clause-truth : goal.returns-clause-truth
returns-clause-truth g c list = (counts_of_same g.met.T.Eq.laws c.sort.new.self.items list.items, same_by_counts g.met.T.Eq.laws c.sort.new.self.items list.items)

pub returns-clause-missing : goal.returns-clause-missing
returns-clause-missing g c list = count_difference g.met.T.Eq.laws c.sort.new.self.items list.items

pub returns-clause-extra : goal.returns-clause-extra
returns-clause-extra g c list value = count_difference g.met.T.Eq.laws (ascending g.T.Ord.cmp list.items) c.sort.new.self.items value ∙ ap (λ n. n - count_of g.T.PartialEq.eq c.sort.new.self.items value) (count_ascending g.met.T.Eq.laws g.T.Ord.cmp list.items value)
