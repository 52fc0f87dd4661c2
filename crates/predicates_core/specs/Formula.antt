-- The formula of a predicate on an item, its leaves, and its value under every choice of truths for
-- the leaves.
use Rattle.std.specs.Prelude.{◌≡◌, ℕ, ◌+◌, ◌-◌, List, [], ◌∷◌, ◌++◌, length, take, drop, Bool, true}
use Rattle.std.specs.Prelude.{false, not, ◌&&◌, ◌||◌, nat_le, slice_index_or, codes, zero, suc}
use Rattle.predicates_core.specs.declared.custom.join.Operator.{Operator}
use Rattle.predicates_core.specs.declared.custom.join.Operator.TheVariants.{And, Or, Xor}
use Rattle.predicates_core.specs.Label.{Label, Product, Entry, with_last}

-- the one or the other, and not both
abbrev pub differ : Bool → Bool → Bool
differ true b = not b
differ false b = b

-- how the truths of two parts make that of the whole
abbrev pub apply : Operator → Bool → Bool → Bool
apply And = ◌&&◌
apply Or = ◌||◌
apply Xor = differ

mutual
  pub data Formula : Type 0 where
    Leaf : Label → Bool → Formula
    Join : Operator → Label → Formulas → Formula
    Not : Label → Formula → Formula
    Named : Label → List ℕ → Formula → Formula
    -- at least the number of parts are true
    AtLeast : ℕ → Label → Formulas → Formula

  -- the parts of a join, one or more, each under a name
  pub data Formulas : Type 0 where
    one : List ℕ → Formula → Formulas
    more : List ℕ → Formula → Formulas → Formulas

-- two parts, under the names `left` and `right`
abbrev pub pair : Operator → Label → Formula → Formula → Formula
pair op label l r = Join op label (more (codes "left") l (one (codes "right") r))

abbrev pub number_of_parts : Formulas → ℕ
number_of_parts (one name f) = 1
number_of_parts (more name f fs) = suc (number_of_parts fs)

-- the number of parts that have to be true where k have: one at least, and no more than there are
abbrev pub needed : ℕ → Formulas → ℕ
needed k (one name f) = 1
needed zero (more name f fs) = 1
needed (suc zero) (more name f fs) = 1
needed (suc (suc k)) (more name f fs) = suc (needed (suc k) fs)

-- how many of n parts decide by having the truth, where k have to hold
abbrev pub enough_of : Bool → ℕ → ℕ → ℕ
enough_of true k n = k
enough_of false k n = suc n - k

abbrev pub one_if : Bool → ℕ
one_if true = 1
one_if false = 0

-- the number of leaves, which are numbered from 0, from left to right
unfoldable mutual
  pub size : Formula → ℕ
  size (Leaf label truth) = 1
  size (Join op label fs) = size_of_parts fs
  size (Not label f) = size f
  size (Named label name f) = size f
  size (AtLeast k label fs) = size_of_parts fs

  pub size_of_parts : Formulas → ℕ
  size_of_parts (one name f) = size f
  size_of_parts (more name f fs) = size f + size_of_parts fs

-- a truth for each leaf
abbrev pub IsValuation : Formula → List Bool → Type 0
IsValuation f w = length w ≡ size f

-- the formula's truth where its leaves have the truths of w: the first part takes the first of
-- them, and the other parts the rest
unfoldable mutual
  pub value : Formula → List Bool → Bool
  value (Leaf label truth) w = slice_index_or w 0 false
  value (Join op label fs) w = value_of_parts op fs w
  value (Not label f) w = not (value f w)
  value (Named label name f) w = value f w
  value (AtLeast k label fs) w = nat_le (needed k fs) (holding fs w)

  pub value_of_parts : Operator → Formulas → List Bool → Bool
  value_of_parts op (one name f) w = value f w
  value_of_parts op (more name f fs) w = apply op (value f (take (size f) w))
      (value_of_parts op fs (drop (size f) w))

  -- how many of the parts are true
  pub holding : Formulas → List Bool → ℕ
  holding (one name f) w = one_if (value f w)
  holding (more name f fs) w = one_if (value f (take (size f) w)) + holding fs (drop (size f) w)

-- the truths that the leaves have
unfoldable mutual
  pub actual : Formula → List Bool
  actual (Leaf label truth) = truth ∷ []
  actual (Join op label fs) = actual_of_parts fs
  actual (Not label f) = actual f
  actual (Named label name f) = actual f
  actual (AtLeast k label fs) = actual_of_parts fs

  pub actual_of_parts : Formulas → List Bool
  actual_of_parts (one name f) = actual f
  actual_of_parts (more name f fs) = actual f ++ actual_of_parts fs

unfoldable pub truth : Formula → Bool
truth f = value f (actual f)

abbrev pub label_of : Formula → Label
label_of (Leaf label truth) = label
label_of (Join op label fs) = label
label_of (Not label f) = label
label_of (Named label name f) = label
label_of (AtLeast k label fs) = label

-- the formula with one more product, the last of its root
unfoldable pub with_product : Formula → Product → Formula
with_product (Leaf label truth) p = Leaf (with_last label p) truth
with_product (Join op label fs) p = Join op (with_last label p) fs
with_product (Not label f) p = Not (with_last label p) f
with_product (Named label name f) p = Named (with_last label p) name f
with_product (AtLeast k label fs) p = AtLeast k (with_last label p) fs

-- each formula of F has the truth b
pub record HasTruth (F : Formula → Type 0) (b : Bool) : Type 0 where
  pub at : (f : Formula) → F f → truth f ≡ b

-- f is a leaf
abbrev pub IsLeaf : Formula → Type 0
IsLeaf (Leaf label own) = Unit {0}
IsLeaf (Join op label fs) = ⊥
IsLeaf (Not label f) = ⊥
IsLeaf (Named label name f) = ⊥
IsLeaf (AtLeast k label fs) = ⊥

-- the entry for the text of the root
abbrev pub text_of : Formula → Entry
text_of f = (label_of f).text
