-- Formulas that are explained alike.
use Rattle.std.proofs.Common.{◌≡◌, ℕ, List, Bool, false, refl, sym, arith}
use Rattle.std.specs.Prelude.{not, ◌&&◌, ◌||◌}
use Rattle.predicates_core.specs.Label.{Label}
use Rattle.predicates_core.specs.declared.custom.join.Operator.TheVariants.{And, Or, Xor}
use Rattle.predicates_core.specs.Formula.{Formula, pair, Not, Named, differ, size, value, actual}
use Rattle.predicates_core.specs.Alike.{AreAlike, AreSameFunction}
use Rattle.predicates_core.specs.Kinds.{reasons}
use Rattle.predicates_core.proofs.Values.{not-not}
use Rattle.predicates_core.proofs.BothKinds.{Carries, carried_truth, carries_back, same_first}
use Rattle.predicates_core.proofs.FirstOf.{named_carries}

alike : {f g : Formula} → Carries false f g → AreAlike f g
alike c = record { truths = sym (carried_truth c); reasons = λ S. (same_first reasons c S, same_first reasons (carries_back c) S) }

-- the same function of the same leaves is explained by the same ones
pub same_function : (f g : Formula) → AreSameFunction f g → AreAlike f g
same_function f g h = alike (record { leaves = h.leaves; values = λ w e. sym (h.values w e) })

pub double_negation : (outer inner : Label) (f : Formula) → AreAlike (Not outer (Not inner f)) f
unfolding actual value
double_negation outer inner f = alike (record { leaves = refl; values = λ w e. sym (not-not (value f w)) })

pub named : (label : Label) (name : List ℕ) (f : Formula) → AreAlike (Named label name f) f
named label name f = alike (carries_back (named_carries label name f))

not_and : (a b : Bool) → not (a && b) ≡ (not a || not b)
not_and a b = grind arith

not_or : (a b : Bool) → not (a || b) ≡ (not a && not b)
not_or a b = grind arith

-- the opposite of both parts is one of their opposites
pub negated_and : (a b c d e : Label) (f g : Formula) → AreAlike (Not a (pair And b f g)) (pair Or c (Not d f) (Not e g))
unfolding size value actual
negated_and a b c d e f g = same_function (Not a (pair And b f g)) (pair Or c (Not d f) (Not e g)) (record { leaves = refl; values = λ w h. not_and (value f _) (value g _) })

-- the opposite of one of the parts is both of their opposites
pub negated_or : (a b c d e : Label) (f g : Formula) → AreAlike (Not a (pair Or b f g)) (pair And c (Not d f) (Not e g))
unfolding size value actual
negated_or a b c d e f g = same_function (Not a (pair Or b f g)) (pair And c (Not d f) (Not e g)) (record { leaves = refl; values = λ w h. not_or (value f _) (value g _) })

not_differ : (a b : Bool) → not (differ a b) ≡ differ (not a) b
not_differ a b = grind arith

-- the parts do not differ where the opposite of the left one differs from the right one
pub negated_xor : (a b c d : Label) (f g : Formula) → AreAlike (Not a (pair Xor b f g)) (pair Xor c (Not d f) g)
unfolding size value actual
negated_xor a b c d f g = same_function (Not a (pair Xor b f g)) (pair Xor c (Not d f) g) (record { leaves = refl; values = λ w h. not_differ (value f _) (value g _) })
