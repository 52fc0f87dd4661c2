use Rattle.std.proofs.Common.{Bool, ◌≤◌, ◌+◌, ◌*◌, string_bytes}
use mathlib.Core.Bool.{beq}
use Rattle.predicates_core.specs.Formula.{HasTruth}
use Rattle.explain_words.specs.Checks.{HasFormula, IsInfallibleCheck}
use Rattle.explain_words.specs.Weight.{weight}
use Rattle.explain_words.proofs.check.+eval.Given as goal

-- the whole has the truth of the part where `true` is wanted, else the opposite
abbrev pub invariant-TextCheckPredicateString::eval-loop-check : goal.invariant-TextCheckPredicateString::eval-loop-check
invariant-TextCheckPredicateString::eval-loop-check l =
    ((b : Bool) → HasTruth (HasFormula l.check (string_bytes l.item)) b → HasTruth (HasFormula l.self (string_bytes l.item)) (beq b l.wanted))
    × (IsInfallibleCheck l.self → IsInfallibleCheck l.check)
    × (weight l.check ≤ weight l.self)

abbrev pub decreases-TextCheckPredicateString::eval : goal.decreases-TextCheckPredicateString::eval
decreases-TextCheckPredicateString::eval l = 2 * weight l.self.now

abbrev pub decreases-TextCheckPredicateString::eval-loop-check : goal.decreases-TextCheckPredicateString::eval-loop-check
decreases-TextCheckPredicateString::eval-loop-check l = 2 * weight l.check

abbrev pub decreases-TextCheck::trimmed_holds : goal.decreases-TextCheck::trimmed_holds
decreases-TextCheck::trimmed_holds l = 2 * weight l.self.now + 1

abbrev pub decreases-TextCheck::normalized_holds : goal.decreases-TextCheck::normalized_holds
decreases-TextCheck::normalized_holds l = 2 * weight l.self.now + 1
