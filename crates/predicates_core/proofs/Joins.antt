-- Formulas that join two parts: their leaves and their values are made of the parts'.
use Rattle.std.proofs.Common.{◌≡◌, ℕ, ◌+◌, List, ◌++◌, Bool, length, take, drop, refl, ap, ◌∙◌, arith, length-append}
use Rattle.std.proofs.lemmas.List.{take_at, drop_at}
use Rattle.predicates_core.specs.Label.{Label}
use Rattle.predicates_core.specs.declared.custom.join.Operator.{Operator}
use Rattle.predicates_core.specs.Formula.{Formula, Formulas, one, more, Leaf, Join, Not, Named, AtLeast, apply, pair, size, size_of_parts, IsValuation, value, actual, actual_of_parts, truth}

-- each leaf has a truth
mutual
  unfolding actual size

  pub length-actual : (f : Formula) → length (actual f) ≡ size f
  length-actual (Leaf label t) = refl
  length-actual (Join op label fs) = length-actual_of_parts fs
  length-actual (Not label f) = length-actual f
  length-actual (Named label name f) = length-actual f
  length-actual (AtLeast k label fs) = length-actual_of_parts fs

  pub length-actual_of_parts : (fs : Formulas) → length (actual_of_parts fs) ≡ size_of_parts fs
  length-actual_of_parts (one name f) = length-actual f
  length-actual_of_parts (more name f fs) = omega (arith, length-append (actual f) (actual_of_parts fs), length-actual f, length-actual_of_parts fs)

-- the formula joins two parts: its leaves are theirs, and its value is made of their values
pub record Joins (op : Bool → Bool → Bool) (f l r : Formula) : Type 0 where
  pub sizes : size f ≡ size l + size r
  pub actuals : actual f ≡ actual l ++ actual r
  pub values : (w : List Bool) → value f w ≡ op (value l (take (size l) w)) (value r (drop (size l) w))

-- the first part of a join, and the join of the others
pub joins : (op : Operator) (label : Label) (name : List ℕ) (f : Formula) (fs : Formulas) → Joins (apply op) (Join op label (more name f fs)) f (Join op label fs)
unfolding size actual value
joins op label name f fs = record { sizes = refl; actuals = refl; values = λ w. refl }

pub pair_joins : (op : Operator) (label : Label) (l r : Formula) → Joins (apply op) (pair op label l r) l r
unfolding size actual value
pair_joins op label l r = record { sizes = refl; actuals = refl; values = λ w. refl }

pub joined_value : {op : Bool → Bool → Bool} {f l r : Formula} → Joins op f l r → (v w : List Bool) → IsValuation l v → value f (v ++ w) ≡ op (value l v) (value r w)
joined_value {op} {f} {l} {r} j v w e = j.values (v ++ w) ∙ cc (take_at v w (size l) e, drop_at v w (size l) e)

pub joined_truth : {op : Bool → Bool → Bool} {f l r : Formula} → Joins op f l r → truth f ≡ op (truth l) (truth r)
unfolding truth
joined_truth {op} {f} {l} {r} j = ap (value f) j.actuals ∙ joined_value j (actual l) (actual r) (length-actual l)
