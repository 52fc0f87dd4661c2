-- The pieces of an input, on each of which a record may stand.
use Rattle.std.specs.Prelude.{◌≡◌, ℕ, nat_lt, Bool, true, false, List, [], ◌∷◌, ◌++◌, length, map}
use Rattle.std.specs.Prelude.{Option, Some, None, if◌then◌else◌}
use Rattle.std.specs.Option.{ForSome}
use Rattle.streams.specs.declared.records.position.Position.{Position}
use Rattle.streams.specs.Records.{records, is_closed}
use Rattle.vet_run.specs.declared.input_format.InputFormat.{InputFormat}
use Rattle.vet_run.specs.declared.input_format.InputFormat.TheVariants.{JsonLines, Json}
use Rattle.vet_run.specs.InputLines.{is_blank, taken_lines}

-- without the white space at its end
abbrev pub trimmed : List ℕ → List ℕ
trimmed [] = []
trimmed (byte ∷ bytes) = if is_blank (byte ∷ bytes) then [] else byte ∷ trimmed bytes

-- what is taken of a record: a line feed is put in place of the white space behind it, and nothing
-- is taken of one that has more bytes than the limit
abbrev pub taken_record : ℕ → List ℕ → Option (List ℕ)
taken_record limit value =
    if nat_lt limit (length value) then None else Some (trimmed value ++ 10 ∷ [])

-- what stands for an array that the input does not close: a `[`
abbrev pub unclosed : Bool → List (Option (List ℕ))
unclosed true = []
unclosed false = Some (91 ∷ []) ∷ []

-- the pieces of an input, from where reading stands
abbrev pub pieces : InputFormat → ℕ → Position → List ℕ → List (Option (List ℕ))
pieces JsonLines limit p bytes = taken_lines limit bytes
pieces Json limit p bytes =
    map (taken_record limit) (records p bytes) ++ unclosed (is_closed p bytes)

-- the next piece was taken
abbrev pub TakesPiece : InputFormat → ℕ → Option (List ℕ) → Option (List ℕ)
    → Position → Position → Option (List ℕ) → Type 0
TakesPiece format limit before after from to piece = ForSome before (λ bytes. (left : List ℕ)
    × (after ≡ Some left) × (pieces format limit from bytes ≡ piece ∷ pieces format limit to left))

-- no piece was left
abbrev pub IsOver : InputFormat → ℕ → Option (List ℕ) → Option (List ℕ) → Position → Type 0
IsOver format limit before after from = ForSome before (λ bytes.
    (after ≡ Some []) × (pieces format limit from bytes ≡ []))
