-- The lines of an input, and what a run writes for them.
use Rattle.std.specs.Prelude.{◌≡◌, ◌≢◌, ℕ, ◌+◌, Bool, ◌↔◌, List, [], ◌∷◌, ◌++◌, Option, Some, None}
use Rattle.std.specs.Prelude.{IsTrue, All, map}
use Rattle.std.specs.Option.{ForSome}
use Rattle.std.specs.Io.BufRead.{strip_last}
use Rattle.std.specs.Io.KnownBytes.{Appends}
use Rattle.streams.specs.Lines.{ended_lines}
use Rattle.streams.specs.declared.run_fault.RunFault.{RunFault}
use Rattle.streams.specs.declared.run_fault.RunFault.TheVariants.{Input, Output}

-- the lines of an input, each without the line feed that ends it
abbrev pub input_lines : List ℕ → List (List ℕ)
input_lines bytes = map (λ line. strip_last 10 line) (ended_lines bytes)

-- what is written for some lines from this number on: an answer for each in order, and nothing else
abbrev pub AreAnswers : {Line : Type 0} → (ℕ → Line → List ℕ → Type 0) → ℕ → List Line → List ℕ
    → Type 0
AreAnswers IsAnswer number [] written = written ≡ []
AreAnswers IsAnswer number (line ∷ others) written =
    (first : List ℕ) × (rest : List ℕ) × (written ≡ first ++ rest) × IsAnswer number line first
    × AreAnswers IsAnswer (number + 1) others rest

-- a run took some lines, all those of the input where the reader tells its bytes, wrote their
-- answers, and says whether each was an item
pub record HasRun (IsAnswer : ℕ → List ℕ → List ℕ → Type 0) (IsItem : List ℕ → Type 0)
    (reader_before reader_after writer_before writer_after : Option (List ℕ)) (all : Bool) : Type 0
  where
    pub taken : List (List ℕ)
    pub written : List ℕ
    pub whole : ForSome reader_before
        (λ bytes. (taken ≡ input_lines bytes) × (reader_after ≡ Some []))
    pub appends : Appends writer_before writer_after written
    pub answers : AreAnswers IsAnswer 1 taken written
    pub items : IsTrue all ↔ All IsItem taken

-- a line that is an item without its line feed has a verdict, and no other
abbrev pub IsItemVerdict : (List ℕ → Type 0) → List ℕ → Option Bool → Type 0
IsItemVerdict IsItem line (Some verdict) = IsItem (strip_last 10 line)
IsItemVerdict IsItem line None = ¬ (IsItem (strip_last 10 line))

-- what is told of a line, whichever its verdict, is its answer without the line feed
abbrev pub IsToldAs : (ℕ → List ℕ → List ℕ → Type 0) → ℕ → List ℕ × Option Bool → List ℕ → Type 0
IsToldAs IsAnswer number line = IsAnswer number (strip_last 10 line.0)

-- what is left of the input are its last lines, so that none was taken in part
abbrev pub IsBehindLines : Option (List ℕ) → Option (List ℕ) → Type 0
IsBehindLines before after = (taken : List (List ℕ)) × ForSome before (λ bytes.
    (left : List ℕ) × (after ≡ Some left) × (ended_lines bytes ≡ taken ++ ended_lines left))

-- a fault ended the run. Where the input could not be read, all that is written are the answers to
-- first lines of it; where a write failed, no line was taken in part; where memory was refused, one
-- of both
pub data HasRunUntil (IsAnswer : ℕ → List ℕ → List ℕ → Type 0)
    (reader_before reader_after writer_before writer_after : Option (List ℕ)) (fault : RunFault) :
    Type 0
  where
    unread : (taken : List (List ℕ)) (written : List ℕ)
        → ForSome reader_before (λ bytes.
        (others : List (List ℕ)) × (input_lines bytes ≡ taken ++ others))
        → Appends writer_before writer_after written → AreAnswers IsAnswer 1 taken written
        → fault ≢ Output
        → HasRunUntil IsAnswer reader_before reader_after writer_before writer_after fault
    unwritten : IsBehindLines reader_before reader_after → fault ≢ Input
        → HasRunUntil IsAnswer reader_before reader_after writer_before writer_after fault
