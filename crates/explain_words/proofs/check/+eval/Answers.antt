use Rattle.std.proofs.Common.{rules, ◌≡◌, ◌∙◌, ◌⊎◌, inl, inr, ◌+◌, ◌*◌, Bool, true, false, not, string_bytes, refl, sym, ap, subst, arith}
use mathlib.Core.Bool.{beq}
use Rattle.predicates_core.specs.Formula.{Formula, apply, HasTruth}
use Rattle.predicates_core.specs.Asked.{asks}
use Rattle.predicates_core.specs.declared.custom.join.Operator.{Operator}
use Rattle.predicates_core.specs.declared.custom.join.Operator.TheVariants.{And, Or, Xor}
use Rattle.predicates_core.specs.Combined.{IsPair}
use Rattle.predicates_core.proofs.Fewer.{truth_of_fewer}
use Rattle.predicates_core.proofs.CombinedLemmas.{HasTruth-not, HasTruth-pair, HasTruth-left}
use Rattle.explain_words.specs.Checks.{check_text, operator_of, HasFormula, IsInfallibleCheck}
use Rattle.explain_words.specs.Weight.{weight}
use Rattle.explain_words.proofs.check.+eval.Goals as goal

-- a part under `not` that is wanted to be w, where its own part has the same verdict or the
-- opposite
under : (b s w : Bool) → beq (not (beq b s)) w ≡ beq b (not (beq s w))
under true true true = refl
under true true false = refl
under true false true = refl
under true false false = refl
under false true true = refl
under false true false = refl
under false false true = refl
under false false false = refl

-- where the right part counts, the whole has its truth or the opposite
over : (op : Operator) (a b w : Bool) → asks op a ≡ true → beq (apply op a b) w ≡ beq b (not (beq (apply op a false) w))
over And true b true asked = refl
over And true b false asked = refl
over And false b w asked = absurd (cc)
over Or false b true asked = refl
over Or false b false asked = refl
over Or true b w asked = absurd (cc)
over Xor true true true asked = refl
over Xor true true false asked = refl
over Xor true false true asked = refl
over Xor true false false asked = refl
over Xor false b true asked = refl
over Xor false b false asked = refl

-- where it does not count, the whole has the truth of the left part
settled : (op : Operator) (a y : Bool) → asks op a ≡ false → apply op a y ≡ a
settled And false y ends = refl
settled And true y ends = absurd (cc)
settled Or true y ends = refl
settled Or false y ends = absurd (cc)
settled Xor a y ends = absurd (cc)

-- what follows from each of three
of_three : {A B C D : Type 0} → A ⊎ (B ⊎ C) → (A → D) → (B → D) → (C → D) → D
of_three (inl a) of_a of_b of_c = of_a a
of_three (inr (inl b)) of_a of_b of_c = of_b b
of_three (inr (inr c)) of_a of_b of_c = of_c c

pub TextCheckPredicateString::eval-loop-check-preserved-in-Not-1 : goal.TextCheckPredicateString::eval-loop-check-preserved-in-Not-1
TextCheckPredicateString::eval-loop-check-preserved-in-Not-1 t c =
    let bytes = string_bytes c.args.item.now in
    let s = c.without_nots-is_same.result.1 in (
      λ b of_part. subst (HasTruth _) (under b s c.loop-check.wanted) (c.loop-check.invariant.0 (not (beq b s)) (rw c.in-Not.is (HasTruth-not (rw c.deref-in-Not.ensures at c.without_nots-is_same.ensures.truth bytes b of_part) refl))),
      λ h. c.without_nots-is_same.ensures.infallible (rw c.deref-in-Not.ensures (rw c.in-Not.is at c.loop-check.invariant.1 h)),
      omega (arith, c.without_nots-is_same.ensures.smaller, ap weight c.deref-in-Not.ensures, ap weight c.in-Not.is, c.loop-check.invariant.2),
    )

pub TextCheckPredicateString::eval-loop-check-preserved : goal.TextCheckPredicateString::eval-loop-check-preserved
TextCheckPredicateString::eval-loop-check-preserved t c =
    let op = c.operator-operator.result in
    let a = c.in_ok-left_holds-in-And.left_holds in
    let asked : asks op a ≡ true = search rules in
    let bytes = string_bytes c.args.item.now in
    let left = c.in-And.left.value in
    let right = c.in-And.right.value in
    let check = c.loop-check.check.now in
    let whole : (f : Formula) → HasFormula check bytes f → IsPair (operator_of check) (check_text check) (HasFormula left bytes) (HasFormula right bytes) f = of_three c.in-And.is (λ e f h. rw e (rw e at h)) (λ e f h. rw e (rw e at h)) (λ e f h. rw e (rw e at h)) in
    let weighs : weight check ≡ 2 * weight left + weight right + 1 = of_three c.in-And.is (λ e. rw e refl) (λ e. rw e refl) (λ e. rw e refl) in
    let infallible : IsInfallibleCheck check → IsInfallibleCheck right = of_three c.in-And.is (λ e h. (rw e at h).1) (λ e h. (rw e at h).1) (λ e h. (rw e at h).1) in (
      λ b of_part. subst (HasTruth _) (over op a b c.loop-check.wanted asked ∙ ap (λ z. beq b (not (beq z c.loop-check.wanted))) (sym c.apply.ensures)) (c.loop-check.invariant.0 (apply op a b) (truth_of_fewer whole (rw (← c.operator-operator.ensures) (HasTruth-pair op (rw c.deref-in-And.ensures at c.in_ok-left_holds-in-And.ensures.truth) (rw c.deref-check.ensures at of_part))))),
      λ h. rw c.deref-check.ensures (infallible (c.loop-check.invariant.1 h)),
      rw c.deref-check.ensures (omega (arith, weighs, c.loop-check.invariant.2)),
    )

pub TextCheckPredicateString::eval-returns-then-not-asks-clause-truth : goal.TextCheckPredicateString::eval-returns-then-not-asks-clause-truth
TextCheckPredicateString::eval-returns-then-not-asks-clause-truth t c =
    let op = c.operator-operator.result in
    let a = c.in_ok-left_holds-in-And.left_holds in
    let ends : asks op a ≡ false = search rules in
    let bytes = string_bytes c.args.item.now in
    let left = c.in-And.left.value in
    let right = c.in-And.right.value in
    let check = c.loop-check.check.now in
    let whole : (f : Formula) → HasFormula check bytes f → IsPair (operator_of check) (check_text check) (HasFormula left bytes) (HasFormula right bytes) f = of_three c.in-And.is (λ e f h. rw e (rw e at h)) (λ e f h. rw e (rw e at h)) (λ e f h. rw e (rw e at h)) in
    c.loop-check.invariant.0 a (truth_of_fewer whole (rw (← c.operator-operator.ensures) (HasTruth-left op (rw c.deref-in-And.ensures at c.in_ok-left_holds-in-And.ensures.truth) refl (λ y. settled op a y ends))))
