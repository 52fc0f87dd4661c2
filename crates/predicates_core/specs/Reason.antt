-- Which leaves explain a formula's truth: the first of all its minimal reasons.
use Rattle.std.specs.Prelude.{◌≡◌, ℕ, suc, ◌<◌, ◌≤◌, List, [], ◌∷◌, ◌++◌, Bool, false}
use Rattle.std.specs.Prelude.{slice_index_or}
use Rattle.predicates_core.specs.First.{IsFirst}
use Rattle.predicates_core.specs.Formula.{Formula, size, IsValuation, value, actual, truth}

-- the numbers increase, none is below `low`, and all are below `high`
unfoldable pub AreIncreasing : ℕ → ℕ → List ℕ → Type 0
AreIncreasing low high [] = Unit {0}
AreIncreasing low high (k ∷ rest) = (low ≤ k) × (k < high) × AreIncreasing (suc k) high rest

-- the two valuations are equal at each of the places
unfoldable pub AreEqualAt : List ℕ → List Bool → List Bool → Type 0
AreEqualAt [] v w = Unit {0}
AreEqualAt (k ∷ rest) v w = (slice_index_or v k false ≡ slice_index_or w k false)
    × AreEqualAt rest v w

-- leaves that decide the formula: it has the same truth under every valuation that leaves these as
-- they are
pub record IsReason (f : Formula) (leaves : List ℕ) : Type 0 where
  pub numbers : AreIncreasing 0 (size f) leaves
  pub decides : (w : List Bool) → IsValuation f w → AreEqualAt leaves w (actual f)
      → value f w ≡ truth f

-- without any one of its leaves it is no reason
pub record IsMinimalReason (f : Formula) (leaves : List ℕ) : Type 0 where
  pub reason : IsReason f leaves
  pub needs_each : (front : List ℕ) (leaf : ℕ) (back : List ℕ) → leaves ≡ front ++ leaf ∷ back
      → IsReason f (front ++ back) → ⊥

-- a minimal reason that comes before every other
abbrev pub IsFirstReason : Formula → List ℕ → Type 0
IsFirstReason f = IsFirst (IsMinimalReason f)
