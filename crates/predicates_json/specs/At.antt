-- What a JSON Pointer leads to: the value itself, as it lies in memory.
use Rattle.std.specs.Prelude.{ℕ, List, [], ◌∷◌, ◌++◌, ◌==◌, if◌then◌else◌, Option, Some, None}
use Rattle.std.specs.Prelude.{option_and_then, slice_get, string_bytes, bytes_eq}
use Rattle.std.specs.Map.{lookup}
use Rattle.serde_json.specs.Find.{unescape, index_of}
use Rattle.serde_json.specs.declared.value.Value.{Value, out-Value}
use Rattle.serde_json.specs.declared.value.Value.TheOpen.{Value-F}

-- what one part of a pointer leads to: in an array the item at a place, in an object the member
-- whose name the part is with its escapes undone
abbrev pub step_open : List ℕ → Value-F Value → Option Value
step_open part Value-F.Null = None
step_open part (Value-F.Bool b) = None
step_open part (Value-F.Number x) = None
step_open part (Value-F.String s) = None
step_open part (Value-F.Array v) = option_and_then (slice_get v.items) (index_of part)
step_open part (Value-F.Object m) =
    lookup (λ k. bytes_eq (unescape part) (string_bytes k)) m.entries

abbrev pub step : List ℕ → Value → Option Value
step part v = step_open part (out-Value v)

-- `part` has been read of the part that the text goes on with
unfoldable pub walk : List ℕ → List ℕ → Value → Option Value
walk part [] v = step part v
walk part (x ∷ rest) v = if x == 47 then option_and_then (walk [] rest) (step part v) else
    walk (part ++ x ∷ []) rest v

-- the whole value for the empty pointer, and nothing for another that does not begin with `/`
abbrev pub at_pointer : List ℕ → Value → Option Value
at_pointer [] v = Some v
at_pointer (x ∷ rest) v = if x == 47 then walk [] rest v else None
