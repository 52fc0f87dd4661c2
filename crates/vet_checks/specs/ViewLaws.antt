-- A view of elements gives something: the values lie in the record.
use Rattle.std.proofs.Common.{◌≡◌, ℕ, List, [], ◌∷◌, Option, Some, None, Bor, option_map, map, refl}
use Rattle.std.proofs.Common.{sym, ap, ◌∙◌, String, Global}
use Rattle.std.specs.Prelude.{◌==◌, cond, Bool, true, false, option_and_then, string_bytes}
use Rattle.serde_json.specs.Data.{Data, null, boolean, number, string, array, object}
use Rattle.serde_json.specs.Find.{pointer}
use Rattle.serde_json.specs.View.{view, view_step, number_view, items_view, members_view}
use Rattle.serde_json.specs.declared.value.Value.{Value, out-Value}
use Rattle.serde_json.specs.declared.value.Value.TheFolds.{fold-roll-Value}
use Rattle.serde_json.specs.declared.value.Value.TheOpen.{Value-F}
use Rattle.serde_json.specs.declared.value.Value.TheViews.{roll-Value, roll-out-Value}
use Rattle.predicates_json.specs.At.{at_pointer}
use Rattle.predicates_json.proofs.Pointed.{found-data}
use Rattle.vet_checks.specs.declared.elements.Elements.{Elements}
use Rattle.vet_checks.specs.declared.scope.Scope.{Scope}
use Rattle.vet_checks.specs.Lists.{places_at, places_in, places_of, values_in, values_of}
use Rattle.vet_checks.specs.Nodes.{path_of_view}
use Rattle.vet_checks.specs.Scopes.{place_of, stands}

-- the scope of another value of the record
abbrev scope_at : Scope → Value → Scope
scope_at s v = record s { item = record s.item { now = v } }

-- the data of a value, from one level of it
abbrev layer : Value-F Value → Data
layer Value-F.Null = null
layer (Value-F.Bool b) = boolean b
layer (Value-F.Number x) = number (number_view x)
layer (Value-F.String s) = string (string_bytes s)
layer (Value-F.Array v) = array (items_view v.items)
layer (Value-F.Object m) = object (members_view m.entries)

view-roll : (x : Value-F Value) → view (roll-Value x) ≡ layer x
view-roll Value-F.Null = fold-roll-Value Data view_step Value-F.Null
view-roll (Value-F.Bool b) = fold-roll-Value Data view_step (Value-F.Bool b)
view-roll (Value-F.Number x) = fold-roll-Value Data view_step (Value-F.Number x)
view-roll (Value-F.String s) = fold-roll-Value Data view_step (Value-F.String s)
view-roll (Value-F.Array v) = fold-roll-Value Data view_step (Value-F.Array v)
view-roll (Value-F.Object m) = fold-roll-Value Data view_step (Value-F.Object m)

-- what a value holds, as items of the record
abbrev held_open : Scope → Value-F Value → Option (List Scope)
held_open s Value-F.Null = None
held_open s (Value-F.Bool b) = None
held_open s (Value-F.Number x) = None
held_open s (Value-F.String t) = None
held_open s (Value-F.Array v) = Some (map (scope_at s) v.items)
held_open s (Value-F.Object m) = Some (map (λ e. scope_at s e.1) m.entries)

abbrev held_in : Scope → Value → Option (List Scope)
held_in s v = held_open s (out-Value v)

-- what stands at a path
abbrev stands_at : List ℕ → Scope → Option Value
stands_at [] s = at_pointer [] s.item.now
stands_at (b ∷ path) s =
    cond (b == 94) (at_pointer path s.whole.now) (at_pointer (b ∷ path) s.item.now)

borrowed : (b : Bor Value) (o : Option Value)
    → option_map (λ x. x.now) (option_map (λ v. record b { now = v }) o) ≡ o
borrowed b None = refl
borrowed b (Some v) = refl

borrowed_view : (b : Bor Value) (o : Option Value)
    → option_map (λ x. view x.now) (option_map (λ v. record b { now = v }) o) ≡ option_map view o
borrowed_view b None = refl
borrowed_view b (Some v) = refl

pointed : (b : Bor Value) (path : List ℕ)
    → option_map view (at_pointer path b.now) ≡ pointer path (view b.now)
pointed b path = sym (borrowed_view b (at_pointer path b.now))
    ∙ found-data (option_map (λ v. record b { now = v }) (at_pointer path b.now)) path b.now
    (borrowed b (at_pointer path b.now))

stands_view : (path : List ℕ) (s : Scope)
    → option_map view (stands_at path s) ≡ stands path (place_of s)
stands_view [] s = pointed s.item []
stands_view (b ∷ path) s = turn (b == 94)
  where
    turn : (is : Bool)
        → option_map view (cond is (at_pointer path s.whole.now) (at_pointer (b ∷ path) s.item.now))
        ≡ cond is (pointer path (view s.whole.now)) (pointer (b ∷ path) (view s.item.now))
    turn true = pointed s.whole path
    turn false = pointed s.item (b ∷ path)

items_places : (s : Scope) (vs : List Value)
    → map place_of (map (scope_at s) vs) ≡ places_of (view s.whole.now) (items_view vs)
items_places s [] = refl
items_places s (v ∷ vs) = ap (λ ps. place_of (scope_at s v) ∷ ps) (items_places s vs)

values_places : (s : Scope) (es : List (String Global × Value))
    → map place_of (map (λ e. scope_at s e.1) es)
    ≡ places_of (view s.whole.now) (values_of (members_view es))
values_places s [] = refl
values_places s (e ∷ es) = ap (λ ps. place_of (scope_at s e.1) ∷ ps) (values_places s es)

held_places_of : (s : Scope) (x : Value-F Value)
    → option_map (map place_of) (held_open s x)
    ≡ option_map (places_of (view s.whole.now)) (values_in (view (roll-Value x)))
held_places_of s x = by_form x ∙ ap (λ d. option_map (places_of (view s.whole.now)) (values_in d))
    (sym (view-roll x))
  where
    by_form : (x : Value-F Value) → option_map (map place_of) (held_open s x)
        ≡ option_map (places_of (view s.whole.now)) (values_in (layer x))
    by_form Value-F.Null = refl
    by_form (Value-F.Bool b) = refl
    by_form (Value-F.Number x) = refl
    by_form (Value-F.String t) = refl
    by_form (Value-F.Array v) = ap Some (items_places s v.items)
    by_form (Value-F.Object m) = ap Some (values_places s m.entries)

held_places : (s : Scope) (o : Option Value)
    → option_map (map place_of) (option_and_then (held_in s) o)
    ≡ places_in (view s.whole.now) (option_map view o)
held_places s None = refl
held_places s (Some v) = held_places_of s (out-Value v)
    ∙ ap (λ w. option_map (places_of (view s.whole.now)) (values_in (view w))) (roll-out-Value v)

pub elements_given : (e : Elements) (s : Scope) → (o : Option (List Scope))
    × (option_map (map place_of) o ≡ places_at (path_of_view e) (place_of s))
elements_given e s =
    let found = stands_at (path_of_view e) s in (
      option_and_then (held_in s) found,
      held_places s found ∙ ap (places_in (view s.whole.now)) (stands_view (path_of_view e) s),
    )
