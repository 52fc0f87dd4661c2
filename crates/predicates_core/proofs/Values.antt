-- The truth of each kind of formula, and how many parts have to hold.
use Rattle.std.proofs.Common.{◌≡◌, ℕ, List, Bool, true, false, refl, ap, ◌≤◌, zero, suc, arith}
use Rattle.std.specs.Prelude.{not}
use mathlib.Core.Bool.{beq}
use Rattle.predicates_core.specs.Label.{Label}
use Rattle.predicates_core.specs.declared.custom.join.Operator.{Operator}
use Rattle.predicates_core.specs.Formula.{Formula, Formulas, one, more, Leaf, Join, Not, Named, apply, pair, number_of_parts, needed, value, actual, truth}
use Rattle.predicates_core.proofs.Joins.{joins, pair_joins, joined_truth}

-- one part at least has to be true, and no more than there are
pub needed_some : (k : ℕ) (fs : Formulas) → 1 ≤ needed k fs
needed_some k (one name f) = omega arith
needed_some zero (more name f fs) = omega arith
needed_some (suc zero) (more name f fs) = omega arith
needed_some (suc (suc k)) (more name f fs) = omega arith

pub number_some : (fs : Formulas) → 1 ≤ number_of_parts fs
number_some (one name f) = omega arith
number_some (more name f fs) = omega arith

pub needed_within : (k : ℕ) (fs : Formulas) → needed k fs ≤ number_of_parts fs
needed_within k (one name f) = omega arith
needed_within zero (more name f fs) = omega arith
needed_within (suc zero) (more name f fs) = omega arith
needed_within (suc (suc k)) (more name f fs) = let ih = needed_within (suc k) fs in omega arith

-- as many as there are parts
pub needed_is : (k : ℕ) (fs : Formulas) → 1 ≤ k → k ≤ number_of_parts fs → needed k fs ≡ k
needed_is k (one n f) some within = omega (arith, some, within)
needed_is zero (more n f fs) some within = absurd (omega (arith, some))
needed_is (suc zero) (more n f fs) some within = refl
needed_is (suc (suc k)) (more n f fs) some within = ap suc (needed_is (suc k) fs (omega arith) (omega (arith, within)))

pub truth-Leaf : (label : Label) (t : Bool) → truth (Leaf label t) ≡ t
unfolding truth value actual
truth-Leaf label t = refl

pub truth-one : (op : Operator) (label : Label) (name : List ℕ) (f : Formula) → truth (Join op label (one name f)) ≡ truth f
unfolding truth value actual
truth-one op label name f = refl

pub truth-more : (op : Operator) (label : Label) (name : List ℕ) (f : Formula) (fs : Formulas) → truth (Join op label (more name f fs)) ≡ apply op (truth f) (truth (Join op label fs))
truth-more op label name f fs = joined_truth (joins op label name f fs)

pub truth-pair : (op : Operator) (label : Label) (l r : Formula) → truth (pair op label l r) ≡ apply op (truth l) (truth r)
truth-pair op label l r = joined_truth (pair_joins op label l r)

pub truth-Not : (label : Label) (f : Formula) → truth (Not label f) ≡ not (truth f)
unfolding truth value actual
truth-Not label f = refl

pub truth-Named : (label : Label) (name : List ℕ) (f : Formula) → truth (Named label name f) ≡ truth f
unfolding truth value actual
truth-Named label name f = refl

pub not-not : (b : Bool) → not (not b) ≡ b
not-not b = grind arith

-- what a comparison of two truths says
pub same_truths : (a b : Bool) → beq a b ≡ true → a ≡ b
same_truths a b e = grind arith

pub other_truths : (a b : Bool) → beq a b ≡ false → a ≡ not b
other_truths a b e = grind arith

pub beq_same : (a b : Bool) → a ≡ b → beq a b ≡ true
beq_same a b e = grind arith

pub beq_other : (a b : Bool) → a ≡ not b → beq a b ≡ false
beq_other a b e = grind arith
