-- Which lines of an input a filter writes, and what it tells of the others.
use Rattle.std.specs.Prelude.{◌≡◌, ◌≢◌, ℕ, Bool, true, false, not, List, [], ◌++◌, Option, Some, None}
use Rattle.std.specs.Prelude.{All, map, filter, flat_map, length, string_bytes, is_none}
use Rattle.std.specs.Option.{ForSome}
use Rattle.std.specs.Str.{IsUtf8}
use Rattle.std.specs.Io.BufRead.{strip_last}
use Rattle.std.specs.Io.KnownBytes.{Appends}
use Rattle.predicates_core.specs.Text.{Text}
use Rattle.predicates_core.specs.Formula.{Formula, HasTruth}
use Rattle.streams.specs.Lines.{ended_lines}
use Rattle.streams.specs.declared.run_fault.RunFault.{RunFault}
use Rattle.streams.specs.declared.run_fault.RunFault.TheVariants.{Input, Output}
use Rattle.explain_run.specs.Runs.{AreAnswers, IsBehindLines}
use Rattle.explain_run.specs.TextAnswers.{IsTextAnswer}
use Rattle.explain_run.specs.declared.filter.Filtered.{Filtered}

-- the truth that each formula has on a text with the line's bytes before its line feed; none where
-- those are no text
abbrev pub IsVerdict : (Text → Formula → Type 0) → List ℕ → Option Bool → Type 0
IsVerdict has line (Some verdict) = (item : Text) × (string_bytes item ≡ strip_last 10 line)
    × HasTruth (has item) verdict
IsVerdict has line None = ¬ (IsUtf8 (strip_last 10 line))

abbrev pub is_wanted : Bool → Option Bool → Bool
is_wanted true (Some verdict) = verdict
is_wanted false (Some verdict) = not verdict
is_wanted wanted None = false

-- a line, and the verdict on it
abbrev pub Judged : Type 0
Judged = List ℕ × Option Bool

-- each line of the input has its verdict; what is written is the lines with a verdict that is kept,
-- in order and byte for byte; and the counts are of these, and of the lines without a verdict
pub record HasJudged (Has : List ℕ → Option Bool → Type 0) (kept : Option Bool → Bool)
    (reader_before reader_after writer_before writer_after : Option (List ℕ)) (counts : Filtered) :
    Type 0 where
  pub lines : List Judged
  pub whole : ForSome reader_before
      (λ bytes. (map (λ l. l.0) lines ≡ ended_lines bytes) × (reader_after ≡ Some []))
  pub verdicts : All (λ l. Has l.0 l.1) lines
  pub appends : Appends writer_before writer_after
      (flat_map (λ l. l.0) (filter (λ l. kept l.1) lines))
  pub written : counts.written ≡ length (filter (λ l. kept l.1) lines)
  pub not_utf8 : counts.not_utf8 ≡ length (filter (λ l. is_none l.1) lines)

-- so it is, with the verdicts of the predicate, of which the wanted one is kept
abbrev pub HasFiltered : (Text → Formula → Type 0) → Bool → Option (List ℕ) → Option (List ℕ)
    → Option (List ℕ) → Option (List ℕ) → Filtered → Type 0
HasFiltered has wanted = HasJudged (IsVerdict has) (is_wanted wanted)

-- what is told of the line of this number: nothing where it is written, and else what a run over
-- texts answers to it
pub data IsReason (has : Text → Formula → Type 0) (wanted : Bool) (number : ℕ) (line : Judged)
    (told : List ℕ) : Type 0
  where
    kept : is_wanted wanted line.1 ≡ true → told ≡ [] → IsReason has wanted number line told
    rejected : is_wanted wanted line.1 ≡ false
        → IsTextAnswer has number (strip_last 10 line.0) told
        → IsReason has wanted number line told

-- the lines are judged, and what is told is what may be told of each line in order, and nothing
-- else
pub record HasJudgedTelling (Has : List ℕ → Option Bool → Type 0) (kept : Option Bool → Bool)
    (IsTold : ℕ → Judged → List ℕ → Type 0)
    (reader_before reader_after writer_before writer_after : Option (List ℕ))
    (reasons_before reasons_after : Option (List ℕ)) (counts : Filtered) : Type 0 where
  pub filtered : HasJudged Has kept reader_before reader_after writer_before writer_after counts
  pub told : List ℕ
  pub tells : Appends reasons_before reasons_after told
  pub reasons : AreAnswers IsTold 1 filtered.lines told

abbrev pub HasFilteredTelling : (Text → Formula → Type 0) → (ℕ → Judged → List ℕ → Type 0) → Bool
    → Option (List ℕ) → Option (List ℕ) → Option (List ℕ) → Option (List ℕ) → Option (List ℕ)
    → Option (List ℕ) → Filtered → Type 0
HasFilteredTelling has IsTold wanted = HasJudgedTelling (IsVerdict has) (is_wanted wanted) IsTold

-- the lines that are taken have their verdicts, those that are kept are written, and of each is told
-- what may be
pub record HasPassed (Has : List ℕ → Option Bool → Type 0) (kept : Option Bool → Bool)
    (IsTold : ℕ → Judged → List ℕ → Type 0)
    (reader_before reader_now writer_before writer_now : Option (List ℕ))
    (reasons_before reasons_now : Option (List ℕ)) (count : ℕ) (counts : Filtered) : Type 0 where
  pub lines : List Judged
  pub left : ForSome reader_before (λ bytes. (left : List ℕ) × (reader_now ≡ Some left)
      × (ended_lines bytes ≡ map (λ l. l.0) lines ++ ended_lines left))
  pub counted : length lines ≡ count
  pub verdicts : All (λ l. Has l.0 l.1) lines
  pub appends : Appends writer_before writer_now
      (flat_map (λ l. l.0) (filter (λ l. kept l.1) lines))
  pub written : counts.written ≡ length (filter (λ l. kept l.1) lines)
  pub not_utf8 : counts.not_utf8 ≡ length (filter (λ l. is_none l.1) lines)
  pub told : List ℕ
  pub tells : Appends reasons_before reasons_now told
  pub reasons : AreAnswers IsTold 1 lines told

-- a fault ended the judging. Where the input could not be read, all that is written and told is that
-- of the lines before; where a write failed, the reader stands behind a whole line; where memory was
-- refused, one of both
pub data HasStopped (Has : List ℕ → Option Bool → Type 0) (kept : Option Bool → Bool)
    (IsTold : ℕ → Judged → List ℕ → Type 0)
    (reader_before reader_after writer_before writer_after : Option (List ℕ))
    (reasons_before reasons_after : Option (List ℕ)) (fault : RunFault) : Type 0
  where
    at_input : (now : Option (List ℕ)) (count : ℕ) (counts : Filtered)
        → HasPassed Has kept IsTold reader_before now writer_before writer_after
        reasons_before reasons_after count counts → fault ≢ Output
        → HasStopped Has kept IsTold reader_before reader_after writer_before writer_after
        reasons_before reasons_after fault
    at_output : IsBehindLines reader_before reader_after → fault ≢ Input
        → HasStopped Has kept IsTold reader_before reader_after writer_before writer_after
        reasons_before reasons_after fault

-- so it is, with the verdicts of the predicate, of which nothing is told
abbrev pub HasFilteredUntil : (Text → Formula → Type 0) → Bool → Option (List ℕ) → Option (List ℕ)
    → Option (List ℕ) → Option (List ℕ) → RunFault → Type 0
HasFilteredUntil has wanted r0 r1 w0 w1 = HasStopped (IsVerdict has) (is_wanted wanted)
    (λ _ _ told. told ≡ []) r0 r1 w0 w1 None None

abbrev pub HasFilteredTellingUntil : (Text → Formula → Type 0) → Bool → Option (List ℕ)
    → Option (List ℕ) → Option (List ℕ) → Option (List ℕ) → Option (List ℕ) → Option (List ℕ)
    → RunFault → Type 0
HasFilteredTellingUntil has wanted = HasStopped (IsVerdict has) (is_wanted wanted)
    (IsReason has wanted)
