-- The records of an input.
use Rattle.std.specs.Prelude.{ℕ, Bool, true, false, not, List, [], ◌∷◌, if◌then◌else◌}
use Rattle.streams.specs.Lines.{onto_first}
use Rattle.streams.specs.declared.records.position.Position.{Position}
use Rattle.streams.specs.declared.records.position.Position.TheVariants.{Outside, First, Member}
use Rattle.streams.specs.declared.records.position.Position.TheVariants.{Value, Text, Escape}
use Rattle.streams.specs.declared.records.step.Step.{Step}
use Rattle.streams.specs.RecordSteps.{step_of}

-- the record that the end of the input ends
abbrev pub cut_short : Position → List (List ℕ)
cut_short Outside = []
cut_short First = []
cut_short Member = []
cut_short (Value is_member depth) = [] ∷ []
cut_short (Text is_member depth) = [] ∷ []
cut_short (Escape is_member depth) = [] ∷ []

-- a byte before the records behind it
abbrev pub before : Step → ℕ → List (List ℕ) → List (List ℕ)
before s byte others =
    if s.is_end then (if s.is_kept then byte ∷ [] else []) ∷ others
    else (if s.is_kept then onto_first byte others else others)

-- the records of an input from a position on, one after another; the first goes on where the
-- position is inside one
abbrev pub records : Position → List ℕ → List (List ℕ)
records p [] = cut_short p
records p (byte ∷ bytes) = before (step_of p byte) byte (records (step_of p byte).position bytes)

-- in no array
abbrev pub is_outside : Position → Bool
is_outside Outside = true
is_outside First = false
is_outside Member = false
is_outside (Value is_member depth) = not is_member
is_outside (Text is_member depth) = not is_member
is_outside (Escape is_member depth) = not is_member

-- whether the input ends in no array
abbrev pub is_closed : Position → List ℕ → Bool
is_closed p [] = is_outside p
is_closed p (byte ∷ bytes) = is_closed (step_of p byte).position bytes
