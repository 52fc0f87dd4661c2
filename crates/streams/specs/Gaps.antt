-- What lies between the records of an input; joined with the records it is the input
-- (`joined` of `proofs/Joining`), and
-- it is white space, brackets and commas alone (`between_records`).
use Rattle.std.specs.Prelude.{ℕ, Bool, ◌==◌, ◌||◌, List, [], ◌∷◌, ◌++◌, if◌then◌else◌}
use Rattle.streams.specs.Lines.{onto_first}
use Rattle.streams.specs.declared.records.position.Position.{Position}
use Rattle.streams.specs.RecordSteps.{is_white, step_of}
use Rattle.streams.specs.Records.{cut_short}

-- what may lie between records: white space, and the brackets and commas of arrays
abbrev pub is_shell : ℕ → Bool
is_shell byte = is_white byte || (byte == 91 || (byte == 44 || byte == 93))

-- a byte before the gaps behind it, the first of which is before a record
abbrev pub gap_before : Bool → Bool → ℕ → List (List ℕ) → List (List ℕ)
gap_before is_kept is_end byte others =
    if is_end then [] ∷ (if is_kept then others else onto_first byte others)
    else (if is_kept then others else onto_first byte others)

-- the gaps of an input from a position on: before each record, and behind the last
abbrev pub gaps : Position → List ℕ → List (List ℕ)
gaps p [] = [] ∷ cut_short p
gaps p (byte ∷ bytes) =
    gap_before (step_of p byte).is_kept (step_of p byte).is_end byte
    (gaps (step_of p byte).position bytes)

-- gaps and records in turn
abbrev pub woven : List (List ℕ) → List (List ℕ) → List ℕ
woven [] records = []
woven (gap ∷ gaps) [] = gap
woven (gap ∷ gaps) (record_of ∷ records) = gap ++ (record_of ++ woven gaps records)
