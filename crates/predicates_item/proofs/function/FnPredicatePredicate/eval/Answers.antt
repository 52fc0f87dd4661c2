use Rattle.std.proofs.Common.{refl}
use Rattle.predicates_item.proofs.Calls.{HasTruth-call}
use Rattle.predicates_item.proofs.function.FnPredicatePredicate.eval.Goals as goal

pub returns-clause-truth : goal.returns-clause-truth
returns-clause-truth g c = HasTruth-call c.requires.1 (record { shown = c.args.item; shows = refl; says = record { met = c.function.ensures } })
