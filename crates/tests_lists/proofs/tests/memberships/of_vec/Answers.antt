use Rattle.std.proofs.Common.{◌≡◌, ℤ, rules}
use Rattle.std.proofs.lemmas.Iterator.Adapters.{YieldsList-from_vec}
use Rattle.std.proofs.lemmas.Result.{IfOk-weaker}
use Rattle.predicates_item.specs.In.{members_of}
use Rattle.predicates_item.proofs.GivenItems.{items_from_gives}
use Rattle.tests_lists.proofs.tests.memberships.of_vec.Goals as goal

pub returns : goal.returns
returns c =
    let members = c.args.members.items in
    IfOk-weaker c.in_iter.result _ (λ p. members_of p ≡ members)
    (λ p given. items_from_gives members (λ it made. YieldsList-from_vec members (search rules) (search rules)) given)
    c.in_iter.ensures.items
