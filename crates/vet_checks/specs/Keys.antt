-- The keys of an object, beside those that a rule allows.
use Rattle.std.specs.Prelude.{ℕ, List, [], ◌∷◌, Bool, not, Option, bytes_eq}
use Rattle.std.specs.List.{list_any, list_all, find}
use Rattle.serde_json.specs.Data.{Members, no_members, member}

abbrev pub keys_of : Members → List (List ℕ)
keys_of no_members = []
keys_of (member k d ms) = k ∷ keys_of ms

-- whether it is one of the texts
abbrev pub is_text_among : List (List ℕ) → List ℕ → Bool
is_text_among texts key = list_any (bytes_eq key) texts

-- whether each key is allowed
abbrev pub are_keys_among : (List ℕ → Bool) → Members → Bool
are_keys_among is_allowed ms = list_all is_allowed (keys_of ms)

-- the first of the keys that is not
abbrev pub first_other : (List ℕ → Bool) → List (List ℕ) → Option (List ℕ)
first_other is_allowed keys = find (λ key. not (is_allowed key)) keys

abbrev pub other_key : (List ℕ → Bool) → Members → Option (List ℕ)
other_key is_allowed ms = first_other is_allowed (keys_of ms)
