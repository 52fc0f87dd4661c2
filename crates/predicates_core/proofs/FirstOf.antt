-- The first leaves of each kind of formula, from those of its parts, and that each has exactly one list.
use Rattle.std.proofs.Common.{◌≡◌, ℕ, ◌≤◌, List, [], ◌++◌, Bool, true, false, refl, arith, inl}
use Rattle.predicates_core.specs.Label.{Label, Product}
use Rattle.predicates_core.specs.declared.custom.join.Operator.{Operator}
use Rattle.predicates_core.specs.declared.custom.join.Operator.TheVariants.{And, Or, Xor}
use Rattle.predicates_core.specs.Formula.{Formula, Formulas, one, more, Leaf, Join, Not, Named, AtLeast, number_of_parts, size, value, actual, truth, with_product}
use Rattle.predicates_core.specs.Kinds.{Kind, reasons, changes, First, HasOneFirst}
use Rattle.predicates_core.proofs.Numbers.{shifted}
use Rattle.predicates_core.proofs.BothKinds.{Carries, carried_truth, same_first, first-Leaf, first_unique}
use Rattle.predicates_core.proofs.Selection.{IsSelected, FirstOfEach, selected, IsMadeOf, first_made}
use Rattle.predicates_core.proofs.Thresholds.{and_value, or_value, is_like, many, many_like, decisive, decisive_some, decided_by_parts}
use Rattle.predicates_core.proofs.Reasons
use Rattle.predicates_core.proofs.Reasons.{two, all}
use Rattle.predicates_core.proofs.Changes
use Rattle.predicates_core.proofs.Changes.{turning}

-- ---- the same function of the same leaves, or its opposite

pub not_carries : (label : Label) (f : Formula) → Carries true f (Not label f)
unfolding actual value
not_carries label f = record { leaves = refl; values = λ w e. refl }

pub named_carries : (label : Label) (name : List ℕ) (f : Formula) → Carries false f (Named label name f)
unfolding actual value
named_carries label name f = record { leaves = refl; values = λ w e. refl }

-- a join of one part
pub one_carries : (op : Operator) (label : Label) (name : List ℕ) (f : Formula) → Carries false f (Join op label (one name f))
unfolding actual value
one_carries op label name f = record { leaves = refl; values = λ w e. refl }

pub with_product_carries : (f : Formula) (p : Product) → Carries false f (with_product f p)
unfolding actual value with_product
with_product_carries (Leaf label t) p = record { leaves = refl; values = λ w e. refl }
with_product_carries (Join op label fs) p = record { leaves = refl; values = λ w e. refl }
with_product_carries (Not label f) p = record { leaves = refl; values = λ w e. refl }
with_product_carries (Named label name f) p = record { leaves = refl; values = λ w e. refl }
with_product_carries (AtLeast k label fs) p = record { leaves = refl; values = λ w e. refl }

pub with_product_truth : (f : Formula) (p : Product) → truth (with_product f p) ≡ truth f
with_product_truth f p = carried_truth (with_product_carries f p)

-- ---- thresholds

-- how many of the parts with the truth belong to it: as many as decide, or as are one too many for
-- the other truth
abbrev pub quota : Kind → Bool → ℕ → Formulas → ℕ
quota reasons b k fs = decisive b k fs
quota changes b k fs = turning b k fs

module _ (b : Bool) (k : ℕ) (label : Label) (fs : Formulas) (is : truth (AtLeast k label fs) ≡ b) where
  made_of_threshold : (q : Kind) → IsMadeOf q (is_like b) (quota q b k fs) fs (AtLeast k label fs)
  made_of_threshold reasons = Reasons.made_of_threshold b k label fs is
  made_of_threshold changes = Changes.made_of_threshold b k label fs is

  -- the first so many parts with its truth, each by its own first leaves
  pub first_of_threshold : (q : Kind) (S : List ℕ) → IsSelected q (is_like b) (quota q b k fs) fs S → First q (AtLeast k label fs) S
  first_of_threshold q = first_made q (is_like b) (quota q b k fs) fs (AtLeast k label fs) (made_of_threshold q)

  quota_within : (q : Kind) → quota q b k fs ≤ many (is_like b) fs
  quota_within reasons = let m = many_like b fs in let h = decided_by_parts b k label fs is in omega (arith, m, h)
  quota_within changes = let m = many_like b fs in let s = decisive_some b k fs in omega (arith, m, s)

  pub selected_of_threshold : (q : Kind) → FirstOfEach q fs → (S : List ℕ) × IsSelected q (is_like b) (quota q b k fs) fs S
  selected_of_threshold q each = selected q (is_like b) (quota q b k fs) fs each (quota_within q)

some_of_threshold : (q : Kind) (k : ℕ) (label : Label) (fs : Formulas) → FirstOfEach q fs → (S : List ℕ) × First q (AtLeast k label fs) S
some_of_threshold q k label fs each =
    let s = selected_of_threshold (truth (AtLeast k label fs)) k label fs refl q each in
    (s.0, first_of_threshold (truth (AtLeast k label fs)) k label fs refl q s.0 s.1)

-- ---- joins

-- an `and` is the threshold of all its parts, an `or` that of one
pub and_carries : (label : Label) (fs : Formulas) → Carries false (AtLeast (number_of_parts fs) label fs) (Join And label fs)
unfolding actual
and_carries label fs = record { leaves = refl; values = λ w e. and_value label fs w }

pub or_carries : (label : Label) (fs : Formulas) → Carries false (AtLeast 1 label fs) (Join Or label fs)
unfolding actual
or_carries label fs = record { leaves = refl; values = λ w e. or_value label fs w }

-- of an odd join both the first part and the others, or the first part alone
abbrev both_or_one : Kind → ℕ
both_or_one reasons = 2
both_or_one changes = 1

abbrev pub odd_leaves : Kind → ℕ → List ℕ → List ℕ → List ℕ
odd_leaves reasons n S T = S ++ shifted n T
odd_leaves changes n S T = S ++ []

module _ (label : Label) (n : List ℕ) (f : Formula) (fs : Formulas) where
  made_of_odd : (q : Kind) → IsMadeOf q all (both_or_one q) (two n f (Join Xor label fs)) (Join Xor label (more n f fs))
  made_of_odd reasons = Reasons.made_of_odd label n f fs
  made_of_odd changes = Changes.made_of_odd label n f fs

  odd_selected : (q : Kind) (S T : List ℕ) → First q f S → First q (Join Xor label fs) T → IsSelected q all (both_or_one q) (two n f (Join Xor label fs)) (odd_leaves q (size f) S T)
  odd_selected reasons S T h g = (S, T, refl, inl (refl, h, (refl, g, refl)))
  odd_selected changes S T h g = (S, [], refl, inl (refl, h, refl))

  pub first_of_odd : (q : Kind) (S T : List ℕ) → First q f S → First q (Join Xor label fs) T → First q (Join Xor label (more n f fs)) (odd_leaves q (size f) S T)
  first_of_odd q S T h g = first_made q all (both_or_one q) (two n f (Join Xor label fs)) (Join Xor label (more n f fs)) (made_of_odd q) (odd_leaves q (size f) S T) (odd_selected q S T h g)

-- ---- each formula has exactly one

mutual
  some_first : (q : Kind) (f : Formula) → (S : List ℕ) × First q f S
  some_first q (Leaf label t) = (_, first-Leaf label t q)
  some_first q (Join And label fs) = let s = some_of_threshold q (number_of_parts fs) label fs (first_of_each q fs) in (s.0, same_first q (and_carries label fs) s.0 s.1)
  some_first q (Join Or label fs) = let s = some_of_threshold q 1 label fs (first_of_each q fs) in (s.0, same_first q (or_carries label fs) s.0 s.1)
  some_first q (Join Xor label fs) = some_first_of_odd q label fs
  some_first q (Not label f) = let s = some_first q f in (s.0, same_first q (not_carries label f) s.0 s.1)
  some_first q (Named label name f) = let s = some_first q f in (s.0, same_first q (named_carries label name f) s.0 s.1)
  some_first q (AtLeast k label fs) = some_of_threshold q k label fs (first_of_each q fs)

  pub first_of_each : (q : Kind) (fs : Formulas) → FirstOfEach q fs
  first_of_each q (one name f) = some_first q f
  first_of_each q (more name f fs) = (some_first q f, first_of_each q fs)

  some_first_of_odd : (q : Kind) (label : Label) (fs : Formulas) → (S : List ℕ) × First q (Join Xor label fs) S
  some_first_of_odd q label (one name f) = let s = some_first q f in (s.0, same_first q (one_carries Xor label name f) s.0 s.1)
  some_first_of_odd q label (more name f fs) =
      let a = some_first q f in
      let b = some_first_of_odd q label fs in
      (odd_leaves q (size f) a.0 b.0, first_of_odd label name f fs q a.0 b.0 a.1 b.1)

pub one_list : (q : Kind) (f : Formula) → HasOneFirst q f
one_list q f = let s = some_first q f in (s.0, s.1, λ other h. first_unique h s.1)
