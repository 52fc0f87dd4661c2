use Rattle.std.proofs.Common.{refl}
use Rattle.tests_support.proofs.Called.{has-call, eval-narrower}
use Rattle.tests_support.proofs.at_least.AtLeastPredicateI64.eval.Goals as goal

pub returns-clause-truth : goal.returns-clause-truth
returns-clause-truth c = eval-narrower c.eval.result
    (λ g h. has-call c.function.ensures.function c.function.ensures.name (record { shown = c.args.item; shows = refl; says = record { met = refl } }) h)
    c.eval.ensures.truth
