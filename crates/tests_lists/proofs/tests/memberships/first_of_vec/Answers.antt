use Rattle.std.proofs.Common.{◌≡◌, ℤ, rules}
use Rattle.std.specs.Ordering.{int_eq}
use Rattle.std.proofs.lemmas.Iterator.Adapters.{YieldsList-from_vec}
use Rattle.std.proofs.lemmas.Result.{IfOk-weaker}
use Rattle.predicates_item.specs.HashableIn.{members_of}
use Rattle.predicates_item.specs.Members.{first_of_equals}
use Rattle.predicates_item.proofs.GivenItems.{kept_from_gives}
use Rattle.tests_lists.proofs.tests.memberships.first_of_vec.Goals as goal

pub returns : goal.returns
returns c =
    let members = c.args.members.items in
    IfOk-weaker c.in_hash.result _ (λ p. members_of p ≡ first_of_equals int_eq members)
    (λ p keeps. kept_from_gives members (λ it made. YieldsList-from_vec members (search rules) (search rules)) keeps)
    c.in_hash.ensures.first
