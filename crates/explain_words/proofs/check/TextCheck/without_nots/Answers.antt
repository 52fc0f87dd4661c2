use Rattle.std.proofs.Common.{rules, ◌≡◌, Bool, true, false, not, refl, subst, arith}
use mathlib.Core.Bool.{beq}
use Rattle.predicates_core.specs.Formula.{HasTruth}
use Rattle.predicates_core.proofs.CombinedLemmas.{HasTruth-not}
use Rattle.explain_words.proofs.check.TextCheck.without_nots.Goals as goal

-- `!b == s` and `b == !s`
across : (b s : Bool) → beq (not b) s ≡ beq b (not s)
across true true = refl
across true false = refl
across false true = refl
across false false = refl

pub loop-check-preserved : goal.loop-check-preserved
loop-check-preserved c = (
  λ bytes b of_part. subst (HasTruth _) (across b c.loop-check.is_same) (c.loop-check.invariant.0 bytes (not b) (rw c.in-Not.is (HasTruth-not (rw c.deref-check.ensures at of_part) refl))),
  search rules,
  search (rules, arith),
)
