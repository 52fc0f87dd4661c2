-- How often one text stands in another, when no two places may overlap.
use Rattle.std.specs.Prelude.{◌≡◌, ◌≢◌, ◌⊎◌, List, [], ◌∷◌, ℕ, zero, suc, ◌+◌, ◌-◌, ◌≤◌, ◌<◌}
use Rattle.std.specs.Prelude.{nat_eq, length, All, AllPairs, if◌then◌else◌}
use Rattle.std.specs.List.{starts_with}
use Rattle.std.specs.Str.{chars}
use Rattle.predicates_text.specs.Places.{StandsAt}

-- two places that differ, one at least so far past the other
abbrev pub AreApart : ℕ → ℕ → ℕ → Type 0
AreApart distance a b = (a ≢ b) × ((a + distance ≤ b) ⊎ (b + distance ≤ a))

-- places of s in t that are pairwise apart by the length of s
pub record IsChoiceOfPlaces (s t places : List ℕ) : Type 0 where
  pub each_stands : All (StandsAt s t) places
  pub pairs_apart : AllPairs (AreApart (length s)) places

-- n is the greatest number of places in such a choice
pub record IsCountOf (s t : List ℕ) (n : ℕ) : Type 0 where
  pub reached : (places : List ℕ) × IsChoiceOfPlaces s t places × (length places ≡ n)
  pub greatest : (places : List ℕ) → IsChoiceOfPlaces s t places → length places ≤ n

-- t has one more place than its back `rest`, among the characters and among the bytes
pub record IsPastFirst (pattern text rest : List ℕ) : Type 0 where
  pub shorter : length rest < length text
  pub among_characters : (n : ℕ) → IsCountOf (chars pattern) (chars rest) n
      → IsCountOf (chars pattern) (chars text) (suc n)
  pub among_bytes : (n : ℕ) → IsCountOf pattern rest n → IsCountOf pattern text (suc n)

-- the pattern has no place in the text, among the characters and among the bytes
pub record IsNowhere (pattern text : List ℕ) : Type 0 where
  pub among_characters : IsCountOf (chars pattern) (chars text) 0
  pub among_bytes : IsCountOf pattern text 0

-- the places of s in t that are met from the left, after passing over the first `passed` places
unfoldable pub count_past : List ℕ → ℕ → List ℕ → ℕ
count_past s zero [] = if starts_with nat_eq [] s then 1 else 0
count_past s (suc passed) [] = 0
count_past s zero (c ∷ t) = if starts_with nat_eq (c ∷ t) s then suc (count_past s (length s - 1) t)
    else count_past s zero t
count_past s (suc passed) (c ∷ t) = count_past s passed t

-- the count as a function
abbrev pub count_of : List ℕ → List ℕ → ℕ
count_of s t = count_past s 0 t
