use Rattle.std.proofs.Common.{◌≡◌, ℤ, rules}
use Rattle.std.specs.Ordering.{int_cmp}
use Rattle.std.proofs.lemmas.Iterator.Adapters.{YieldsList-from_vec}
use Rattle.std.proofs.lemmas.Result.{IfOk-weaker}
use Rattle.predicates_item.specs.Multiset.{ascending, members_of}
use Rattle.predicates_item.proofs.GivenItems.{ascending_from_gives}
use Rattle.tests_lists.proofs.tests.same_members.of_vec.Goals as goal

pub returns : goal.returns
returns c =
    let members = c.args.members.items in
    IfOk-weaker c.same_members.result _ (λ p. members_of p ≡ ascending int_cmp members)
    (λ p keeps. ascending_from_gives members (λ it made. YieldsList-from_vec members (search rules) (search rules)) keeps)
    c.same_members.ensures.items
