-- The two kinds of leaves that a case shows: those that decide a formula's truth, and those that
-- would turn it.
use Rattle.std.specs.Prelude.{◌≡◌, ◌≢◌, ℕ, List, [], ◌∷◌, Bool, false, not, set}
use Rattle.std.specs.Prelude.{slice_index_or}
use Rattle.predicates_core.specs.First.{IsMinimal, IsFirst}
use Rattle.predicates_core.specs.Formula.{Formula, size, value, actual, truth}
use Rattle.predicates_core.specs.Reason.{AreIncreasing, IsReason, IsMinimalReason}

-- the valuation with the truth at each of the places turned round
unfoldable pub turned : List ℕ → List Bool → List Bool
turned [] w = w
turned (k ∷ rest) w = turned rest (set w k (not (slice_index_or w k false)))

-- where exactly these leaves turn, and all others stay, the formula's truth turns
pub record IsChange (f : Formula) (leaves : List ℕ) : Type 0 where
  pub numbers : AreIncreasing 0 (size f) leaves
  pub turns : value f (turned leaves (actual f)) ≡ not (truth f)

-- no other change is made of some of its leaves
--
-- It would be less to say that it is no change without any one of its leaves: a change of three
-- parts of a `xor` is none without one of them, but is one without two.
abbrev pub IsMinimalChange : Formula → List ℕ → Type 0
IsMinimalChange f = IsMinimal (IsChange f)

-- a minimal change that comes before every other
abbrev pub IsFirstChange : Formula → List ℕ → Type 0
IsFirstChange f = IsFirst (IsMinimalChange f)

pub data Kind : Type 0 where
  reasons : Kind
  changes : Kind

-- leaves of the kind
abbrev pub Does : Kind → Formula → List ℕ → Type 0
Does reasons = IsReason
Does changes = IsChange

abbrev pub Minimal : Kind → Formula → List ℕ → Type 0
Minimal reasons = IsMinimalReason
Minimal changes = IsMinimalChange

-- the first of the minimal ones
abbrev pub First : Kind → Formula → List ℕ → Type 0
First q f = IsFirst (Minimal q f)

-- there is a first one, and there is no other
abbrev pub HasOneFirst : Kind → Formula → Type 0
HasOneFirst q f = (leaves : List ℕ) × First q f leaves
    × ((other : List ℕ) → First q f other → other ≡ leaves)

-- none is empty, so a case shows a leaf at least
abbrev pub NoneIsEmpty : Kind → Type 0
NoneIsEmpty q = (f : Formula) (leaves : List ℕ) → Does q f leaves → leaves ≢ []
