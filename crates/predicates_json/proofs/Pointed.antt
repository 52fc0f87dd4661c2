-- What stands at a pointer has the data that the pointer leads to in the data of the whole.
use Rattle.std.proofs.Common.{◌≡◌, ℕ, suc, zero, List, [], ◌∷◌, ◌++◌, Option, None, Some, Bor, option_map, option_and_then, refl, sym, ap, ◌∙◌}
use Rattle.std.specs.Prelude.{◌==◌, if◌then◌else◌, Bool, true, false, string_bytes, slice_get}
use Rattle.serde_json.specs.Data.{Data, null, boolean, number, string, array, object}
use Rattle.serde_json.specs.Find as find
use Rattle.serde_json.specs.View.{view, view_step, number_view, items_view, members_view}
use Rattle.serde_json.specs.declared.value.Value.{Value, out-Value}
use Rattle.serde_json.specs.declared.value.Value.TheOpen.{Value-F}
use Rattle.serde_json.specs.declared.value.Value.TheViews.{roll-Value, roll-out-Value}
use Rattle.serde_json.specs.declared.value.Value.TheFolds.{fold-roll-Value}
use Rattle.serde_json.proofs.Views.{view-lookup, view_of_ref}
use Rattle.predicates_json.specs.At.{step_open, step, walk, at_pointer}
use Rattle.predicates_json.proofs.Steps.{lookup-by_order}

-- the data of a value, from one level of it
abbrev layer : Value-F Value → Data
layer Value-F.Null = null
layer (Value-F.Bool b) = boolean b
layer (Value-F.Number x) = number (number_view x)
layer (Value-F.String s) = string (string_bytes s)
layer (Value-F.Array v) = array (items_view v.items)
layer (Value-F.Object m) = object (members_view m.entries)

view-roll : (x : Value-F Value) → view (roll-Value x) ≡ layer x
view-roll Value-F.Null = fold-roll-Value Data view_step Value-F.Null
view-roll (Value-F.Bool b) = fold-roll-Value Data view_step (Value-F.Bool b)
view-roll (Value-F.Number x) = fold-roll-Value Data view_step (Value-F.Number x)
view-roll (Value-F.String s) = fold-roll-Value Data view_step (Value-F.String s)
view-roll (Value-F.Array v) = fold-roll-Value Data view_step (Value-F.Array v)
view-roll (Value-F.Object m) = fold-roll-Value Data view_step (Value-F.Object m)

view-out : (v : Value) → view v ≡ layer (out-Value v)
view-out v = ap view (sym (roll-out-Value v)) ∙ view-roll (out-Value v)

item-data : (vs : List Value) (i : ℕ) → option_map view (slice_get vs i) ≡ find.get_item i (items_view vs)
item-data [] i = refl
item-data (v ∷ vs) zero = refl
item-data (v ∷ vs) (suc i) = item-data vs i

place-data : (vs : List Value) (i : Option ℕ) → option_map view (option_and_then (slice_get vs) i) ≡ option_and_then (λ k. find.get_item k (items_view vs)) i
place-data vs None = refl
place-data vs (Some i) = item-data vs i

step_open-data : (part : List ℕ) (x : Value-F Value) → option_map view (step_open part x) ≡ find.step part (layer x)
step_open-data part Value-F.Null = refl
step_open-data part (Value-F.Bool b) = refl
step_open-data part (Value-F.Number x) = refl
step_open-data part (Value-F.String s) = refl
step_open-data part (Value-F.Array v) = place-data v.items (find.index_of part)
step_open-data part (Value-F.Object m) =
    ap (option_map view) (sym (lookup-by_order (find.unescape part) m.entries)) ∙ view-lookup (find.unescape part) m.entries

step-data : (part : List ℕ) (v : Value) → option_map view (step part v) ≡ find.step part (view v)
step-data part v = step_open-data part (out-Value v) ∙ ap (find.step part) (sym (view-out v))

then-data : (rest : List ℕ) (found : Option Value) (d : Option Data) → option_map view found ≡ d → ((v : Value) → option_map view (walk [] rest v) ≡ find.walk [] rest (view v))
    → option_map view (option_and_then (walk [] rest) found) ≡ option_and_then (find.walk [] rest) d
then-data rest None d e further = ap (option_and_then (find.walk [] rest)) e
then-data rest (Some v) d e further = further v ∙ ap (option_and_then (find.walk [] rest)) e

walk-data : (part rest : List ℕ) (v : Value) → option_map view (walk part rest v) ≡ find.walk part rest (view v)
unfolding walk find.walk
walk-data part [] v = step-data part v
walk-data part (x ∷ rest) v = turn (x == 47) _ _ _ _ (then-data rest (step part v) (find.step part (view v)) (step-data part v) (walk-data [] rest)) (walk-data (part ++ x ∷ []) rest v)
  where
    turn : (b : Bool) (p q : Option Value) (d e : Option Data) → option_map view p ≡ d → option_map view q ≡ e → option_map view (if b then p else q) ≡ (if b then d else e)
    turn true p q d e h k = h
    turn false p q d e h k = k

at_pointer-data : (pointer : List ℕ) (v : Value) → option_map view (at_pointer pointer v) ≡ find.pointer pointer (view v)
at_pointer-data [] v = refl
at_pointer-data (x ∷ rest) v = first (x == 47) _ _ (walk-data [] rest v)
  where
    first : (b : Bool) (p : Option Value) (d : Option Data) → option_map view p ≡ d → option_map view (if b then p else None) ≡ (if b then d else None)
    first true p d h = h
    first false p d h = refl

-- the same of a reference to it
pub found-data : (r : Option (Bor Value)) (pointer : List ℕ) (v : Value) → option_map (λ x. x.now) r ≡ at_pointer pointer v → option_map (λ x. view x.now) r ≡ find.pointer pointer (view v)
found-data r pointer v e = view_of_ref r ∙ ap (option_map view) e ∙ at_pointer-data pointer v

pub ruleset pointed = (found-data)
