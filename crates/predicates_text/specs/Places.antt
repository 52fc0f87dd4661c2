-- Where one text stands in another, and whether they differ in case alone, as lists of characters.
use Rattle.std.specs.Prelude.{◌≡◌, List, [], ◌∷◌, ◌++◌, ℕ, nat_eq, ◌==◌, length, Bool, ◌||◌}
use Rattle.std.specs.Prelude.{bytes_eq}
use Rattle.std.specs.List.{starts_with, ends_with}
use Rattle.caseless.specs.Caseless.{default_case_fold}

-- t begins with s, ends with s
abbrev pub IsFrontOf : List ℕ → List ℕ → Type 0
IsFrontOf s t = (rest : List ℕ) × (t ≡ s ++ rest)

abbrev pub IsBackOf : List ℕ → List ℕ → Type 0
IsBackOf s t = (front : List ℕ) × (t ≡ front ++ s)

-- s stands in t from place i on
abbrev pub StandsAt : List ℕ → List ℕ → ℕ → Type 0
StandsAt s t i = (front : List ℕ) × (rest : List ℕ) × (t ≡ front ++ (s ++ rest))
    × (length front ≡ i)

-- s has a place in t
pub record IsPartOf (s t : List ℕ) : Type 0 where
  pub place : ℕ
  pub stands : StandsAt s t place

-- the answers to these questions
abbrev pub is_empty : List ℕ → Bool
is_empty t = length t == 0

abbrev pub is_front : List ℕ → List ℕ → Bool
is_front s t = starts_with nat_eq t s

abbrev pub is_back : List ℕ → List ℕ → Bool
is_back s t = ends_with nat_eq t s

unfoldable pub is_part : List ℕ → List ℕ → Bool
is_part s [] = is_front s []
is_part s (c ∷ t) = is_front s (c ∷ t) || is_part s t

-- whether both have the same case folding
abbrev pub is_eq_ignore_case : List ℕ → List ℕ → Bool
is_eq_ignore_case s t = bytes_eq (default_case_fold s) (default_case_fold t)
