use Rattle.std.proofs.Common.{refl}
use Rattle.tests_support.proofs.Called.{has-call, find-narrower}
use Rattle.tests_support.proofs.at_least.AtLeastPredicateI64.find_case.Goals as goal

pub returns : goal.returns
returns c = find-narrower c.args.expected c.find_case.result
    (λ g h. has-call c.function.ensures.function c.function.ensures.name (record { shown = c.args.item; shows = refl; says = record { met = refl } }) h)
    c.find_case.ensures
