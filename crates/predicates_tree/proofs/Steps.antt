-- Steps of leaves, one after the other.
use Rattle.predicates_tree.specs.Kept.{AreSteps, no_step, then_step}

pub steps_joined : {C : Type 0} {step : C → C → Type 0} {before between after : C} → AreSteps step before between → AreSteps step between after → AreSteps step before after
steps_joined h no_step = h
steps_joined h (then_step g s) = then_step (steps_joined h g) s
