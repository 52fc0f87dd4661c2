-- The scopes of what an array or an object holds, one after the other.
use Rattle.std.proofs.Common.{◌≡◌, ℕ, ◌+◌, ◌<◌, ◌≤◌, List, [], ◌∷◌, ◌++◌, length, map, take, get_or, refl, sym, ap, ◌∙◌, append_assoc, append-nil, String, Global}
use Rattle.std.proofs.lemmas.List.{map-append, take_more, take_all}
use Rattle.serde_json.specs.Data.{Data}
use Rattle.serde_json.specs.View.{view, items_view, members_view}
use Rattle.serde_json.specs.declared.value.Value.{Value}
use Rattle.vet_checks.specs.declared.scope.Scope.{Scope}
use Rattle.vet_checks.specs.Lists.{places_of, values_of}
use Rattle.vet_checks.specs.Scopes.{Place, place_of, within}

-- the place of a value of the record
abbrev pub place_in : Data → Value → Place
place_in whole v = within whole (view v)

items_placed : (whole : Data) (vs : List Value) → map (place_in whole) vs ≡ places_of whole (items_view vs)
items_placed whole [] = refl
items_placed whole (v ∷ vs) = ap (λ ps. place_in whole v ∷ ps) (items_placed whole vs)

values_placed : (whole : Data) (es : List (String Global × Value)) → map (place_in whole) (map (λ e. e.1) es) ≡ places_of whole (values_of (members_view es))
values_placed whole [] = refl
values_placed whole (e ∷ es) = ap (λ ps. place_in whole e.1 ∷ ps) (values_placed whole es)

module _ (whole : Data) where
  pub item_more : (ss : List Scope) (s : Scope) (vs : List Value) (k : ℕ) (u : Value) → k < length vs → u ≡ get_or vs k u → place_of s ≡ place_in whole u
      → map place_of ss ≡ map (place_in whole) (take k vs) → map place_of (ss ++ s ∷ []) ≡ map (place_in whole) (take (k + 1) vs)
  item_more ss s vs k u within is same before =
      map-append place_of ss (s ∷ [])
      ∙ ap (λ ps. ps ++ place_of s ∷ []) before
      ∙ ap (λ p. map (place_in whole) (take k vs) ++ p ∷ []) same
      ∙ sym (map-append (place_in whole) (take k vs) (u ∷ []))
      ∙ ap (map (place_in whole)) (sym (take_more vs k u within ∙ ap (λ z. take k vs ++ z ∷ []) (sym is)))

  pub items_all : (ss : List Scope) (vs : List Value) (k : ℕ) → length vs ≤ k → map place_of ss ≡ map (place_in whole) (take k vs) → map place_of ss ≡ places_of whole (items_view vs)
  items_all ss vs k all h = h ∙ ap (map (place_in whole)) (take_all k vs all) ∙ items_placed whole vs

  pub value_more : (ss : List Scope) (s : Scope) (u : Value) (left : List Value) (all : List Place) → place_of s ≡ place_in whole u → map place_of ss ++ map (place_in whole) (u ∷ left) ≡ all
      → map place_of (ss ++ s ∷ []) ++ map (place_in whole) left ≡ all
  value_more ss s u left all same before =
      ap (λ ps. ps ++ map (place_in whole) left) (map-append place_of ss (s ∷ []))
      ∙ append_assoc (map place_of ss) (place_of s ∷ []) (map (place_in whole) left)
      ∙ ap (λ p. map place_of ss ++ p ∷ map (place_in whole) left) same ∙ before

  pub values_all : (ss : List Scope) (es : List (String Global × Value)) → map place_of ss ++ [] ≡ map (place_in whole) (map (λ e. e.1) es) → map place_of ss ≡ places_of whole (values_of (members_view es))
  values_all ss es h = sym (append-nil (map place_of ss)) ∙ h ∙ values_placed whole es
