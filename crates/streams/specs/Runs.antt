-- What was taken of an input.
use Rattle.std.specs.Prelude.{◌≡◌, ℕ, ◌<◌, ◌≤◌, Bool, true, false, List, [], ◌∷◌, ◌++◌, take}
use Rattle.std.specs.Prelude.{Option, Some, Result, Ok, Err, OnSome}
use Rattle.std.specs.Option.{ForSome}
use Rattle.std.specs.Io.KnownBytes.{Consumes, IsAtEnd}
use Rattle.streams.specs.Lines.{onto_first}
use Rattle.streams.specs.declared.records.position.Position.{Position}
use Rattle.streams.specs.declared.records.position.Position.TheVariants.{Outside}
use Rattle.streams.specs.declared.records.part.Part.{Part}
use Rattle.streams.specs.declared.records.part.Part.TheVariants.{More, Ended, AtEnd}
use Rattle.streams.specs.declared.records.taken_record.TakenRecord.{TakenRecord}
use Rattle.streams.specs.declared.records.taken_record.TakenRecord.TheVariants.{Record, TooLong}
use Rattle.streams.specs.declared.records.taken_record.TakenRecord.TheVariants.{Unclosed, End}
use Rattle.streams.specs.Records.{records, is_closed, is_outside, cut_short}

-- ---- bytes that move the reading

-- bytes before the first of some records
abbrev pub onto_front : List ℕ → List (List ℕ) → List (List ℕ)
onto_front [] others = others
onto_front (byte ∷ bytes) others = onto_first byte (onto_front bytes others)

-- some records, or the end of one before them
abbrev pub ending : Bool → List (List ℕ) → List (List ℕ)
ending true others = [] ∷ others
ending false others = others

-- some bytes move the reading, and of them these are of the record, which they end or not, whatever
-- stands behind them
pub record Moves (from : Position) (bytes : List ℕ) (is_end : Bool) (to : Position)
    (kept : List ℕ) : Type 0 where
  pub split : (rest : List ℕ) → records from (bytes ++ rest)
      ≡ onto_front kept (ending is_end (records to rest))
  pub closed : (rest : List ℕ) → is_closed from (bytes ++ rest) ≡ is_closed to rest
  pub gap : is_end ≡ false → cut_short to ≡ [] → (cut_short from ≡ []) × (kept ≡ [])

-- what holds the front of some bytes holds the front of more, `most` at most
abbrev pub Grows : ℕ → List ℕ → List ℕ → List ℕ → Type 0
Grows most old new more = (front : List ℕ) → old ≡ take most front → new ≡ take most (front ++ more)

-- some bytes moved the reading, and those of the record were put behind it where there was room
pub record Takes (from : Position) (bytes : List ℕ) (is_end : Bool) (to : Position)
    (old new : List ℕ) (most : ℕ) : Type 0 where
  pub kept : List ℕ
  pub moves : Moves from bytes is_end to kept
  pub grows : Grows most old new kept

-- ---- what calls took

-- whether a record ended
abbrev pub has_ended : {E : Type 0} → Result Bool E → Bool
has_ended (Ok is_end) = is_end
has_ended (Err e) = false

-- the byte, unless memory was refused
abbrev pub if_taken : {E : Type 0} → Result Bool E → ℕ → List ℕ
if_taken (Ok is_end) byte = byte ∷ []
if_taken (Err e) byte = []

-- whether a part ended a record
abbrev pub is_ended : {E : Type 0} → Result Part E → Bool
is_ended (Ok More) = false
is_ended (Ok Ended) = true
is_ended (Ok AtEnd) = false
is_ended (Err e) = false

-- a part of the input was taken
pub record TakesPart {E : Type 0} (before after : Option (List ℕ))
    (from to : Position) (old new : List ℕ) (most : ℕ) (result : Result Part E) : Type 0 where
  pub bytes : List ℕ
  pub consumed : Consumes before after bytes
  pub takes : Takes from bytes (is_ended result) to old new most
  pub at_end : result ≡ Ok AtEnd → OnSome before (IsAtEnd after)

-- the end of the input ended a record
abbrev pub IsCutShort : Position → Position → Type 0
IsCutShort from to =
    (cut_short from ≡ [] ∷ []) × (cut_short to ≡ []) × (is_outside to ≡ is_outside from)

-- at the end of the input a record ends, or an array does not, or nothing was left
pub record EndsInput (from to : Position) (size limit : ℕ) (result : TakenRecord) : Type 0 where
  pub whole : result ≡ Record → IsCutShort from to × (size ≤ limit)
  pub long : result ≡ TooLong → IsCutShort from to × (limit < size)
  pub unclosed : result ≡ Unclosed
      → (cut_short from ≡ []) × (is_outside from ≡ false) × (to ≡ Outside)
  pub none : result ≡ End → (cut_short from ≡ []) × (is_outside from ≡ true) × (to ≡ Outside)

-- ---- what a reader of records answers

-- the next record was taken
abbrev pub IsNext : Option (List ℕ) → Option (List ℕ) → Position → Position → List ℕ → Type 0
IsNext before after from to next = ForSome before (λ bytes.
    (left : List ℕ) × (after ≡ Some left)
    × (records from bytes ≡ next ∷ records to left)
    × (is_closed from bytes ≡ is_closed to left))

-- no record was left, and the input ended in no array, or in one
abbrev pub IsOver : Option (List ℕ) → Option (List ℕ) → Position → Bool → Type 0
IsOver before after from closed = ForSome before (λ bytes.
    (after ≡ Some []) × (records from bytes ≡ []) × (is_closed from bytes ≡ closed))

-- some bytes were taken that end no record
abbrev pub IsInside : Option (List ℕ) → Option (List ℕ) → Position → Position → Type 0
IsInside before after from to =
    (taken : List ℕ) × (kept : List ℕ)
    × Consumes before after taken × Moves from taken false to kept
