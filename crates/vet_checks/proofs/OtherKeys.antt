-- Keys of objects, one after the other.
use Rattle.std.proofs.Common.{◌≡◌, ℕ, List, [], ◌∷◌, Bool, true, false, Option, Some, None, option_map, map, refl, ap, ◌∙◌, String, Global, Bor}
use Rattle.std.specs.Prelude.{◌&&◌, not, cond, is_some, string_bytes}
use Rattle.std.specs.List.{list_all, find}
use Rattle.serde_json.specs.View.{members_view}
use Rattle.serde_json.specs.declared.value.Value.{Value}
use Rattle.vet_checks.specs.Keys.{keys_of, first_other, other_key}

both_maps : (o : Option (Bor (String Global))) → option_map (λ key. string_bytes key.now) o ≡ option_map string_bytes (option_map (λ key. key.now) o)
both_maps None = refl
both_maps (Some key) = refl

keys_of_members : (es : List (String Global × Value)) → map string_bytes (map (λ e. e.0) es) ≡ keys_of (members_view es)
keys_of_members [] = refl
keys_of_members (e ∷ es) = ap (λ keys. string_bytes e.0 ∷ keys) (keys_of_members es)

module _ (is_allowed : List ℕ → Bool) where
  abbrev is_other : String Global → Bool
  is_other key = not (is_allowed (string_bytes key))

  by_bytes : (b : Bool) (key : String Global) (o : Option (String Global)) (p : Option (List ℕ)) → option_map string_bytes o ≡ p → option_map string_bytes (cond b (Some key) o) ≡ cond b (Some (string_bytes key)) p
  by_bytes true key o p h = refl
  by_bytes false key o p h = h

  first_by_bytes : (keys : List (String Global)) → option_map string_bytes (find is_other keys) ≡ first_other is_allowed (map string_bytes keys)
  first_by_bytes [] = refl
  first_by_bytes (key ∷ keys) = by_bytes (is_other key) key (find is_other keys) (first_other is_allowed (map string_bytes keys)) (first_by_bytes keys)

  -- the first other key is so by the bytes of the keys
  pub other_of_members : (es : List (String Global × Value)) (o : Option (Bor (String Global))) → option_map (λ key. key.now) o ≡ find is_other (map (λ e. e.0) es) → option_map (λ key. string_bytes key.now) o ≡ other_key is_allowed (members_view es)
  other_of_members es o h = both_maps o ∙ ap (option_map string_bytes) h ∙ first_by_bytes (map (λ e. e.0) es) ∙ ap (first_other is_allowed) (keys_of_members es)

passes : (b : Bool) (key : List ℕ) (o : Option (List ℕ)) (rest : Bool) → not (is_some o) ≡ rest → not (is_some (cond (not b) (Some key) o)) ≡ (b && rest)
passes true key o rest h = h
passes false key o rest h = refl

-- each key is allowed where none is another
pub none_beside : (is_allowed : List ℕ → Bool) (keys : List (List ℕ)) → not (is_some (first_other is_allowed keys)) ≡ list_all is_allowed keys
none_beside is_allowed [] = refl
none_beside is_allowed (key ∷ keys) = passes (is_allowed key) key (first_other is_allowed keys) (list_all is_allowed keys) (none_beside is_allowed keys)

pub some_of_map : {X Y : Type 0} (f : X → Y) (o : Option X) → is_some (option_map f o) ≡ is_some o
some_of_map f None = refl
some_of_map f (Some x) = refl
