-- The first of several lists of leaves, and those that have no less.
use Rattle.std.specs.Prelude.{◌≡◌, ◌≢◌, ◌⊎◌, ℕ, ◌<◌, List, [], ◌∷◌}
use Rattle.std.specs.List.{Contains}

-- the first list's leaves are among the second's
abbrev pub AreAmong : List ℕ → List ℕ → Type 0
AreAmong S T = (k : ℕ) → Contains S k → Contains T k

-- the one list is a front of the other, or has the smaller number at the first place where they
-- differ
unfoldable pub ComesBefore : List ℕ → List ℕ → Type 0
ComesBefore [] [] = ⊥
ComesBefore [] (y ∷ ys) = Unit {0}
ComesBefore (x ∷ xs) [] = ⊥
ComesBefore (x ∷ xs) (y ∷ ys) = (x < y) ⊎ ((x ≡ y) × ComesBefore xs ys)

-- it is one of those, and no other one is made of some of its leaves
pub record IsMinimal (P : List ℕ → Type 0) (leaves : List ℕ) : Type 0 where
  pub is : P leaves
  pub has_no_less : (other : List ℕ) → P other → AreAmong other leaves → other ≡ leaves

-- it is one of those, and comes before every other
pub record IsFirst (P : List ℕ → Type 0) (leaves : List ℕ) : Type 0 where
  pub is : P leaves
  pub before_others : (other : List ℕ) → P other → other ≢ leaves → ComesBefore leaves other
