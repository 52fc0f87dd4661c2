use Rattle.std.proofs.Common.{ℕ, List, Bool, ◌≤◌}
use mathlib.Core.Bool.{beq}
use Rattle.predicates_core.specs.Formula.{HasTruth}
use Rattle.explain_words.specs.Checks.{HasFormula, IsInfallibleCheck}
use Rattle.explain_words.specs.Weight.{weight}
use Rattle.explain_words.proofs.check.TextCheck.without_nots.Given as goal

abbrev pub invariant-loop-check : goal.invariant-loop-check
invariant-loop-check l =
    ((bytes : List ℕ) (b : Bool) → HasTruth (HasFormula l.check bytes) b → HasTruth (HasFormula l.self bytes) (beq b l.is_same))
    × (IsInfallibleCheck l.self → IsInfallibleCheck l.check)
    × (weight l.check ≤ weight l.self)

abbrev pub decreases-loop-check : goal.decreases-loop-check
decreases-loop-check l = weight l.check
