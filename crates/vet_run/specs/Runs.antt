-- What a run writes.
use Rattle.std.specs.Prelude.{◌≡◌, ◌++◌, ℕ, ◌+◌, List, [], ◌∷◌, Bool, true, false, Option, Some}
use Rattle.std.specs.Prelude.{None, map, flat_map, codes, option_map}
use Rattle.std.specs.Option.{ForSome}
use Rattle.std.specs.Io.KnownBytes.{Appends}
use Rattle.serde_json.specs.Data.{Data}
use Rattle.streams.specs.declared.records.position.Position.TheVariants.{Outside}
use Rattle.vet_run.specs.Counting.{CountsOne, AreCounted, one_counted, all_counted, has_room}
use Rattle.vet_run.specs.Counting.{left_after}
use Rattle.vet_run.specs.FirstBlocks.{TakesOn, AreFirsts, blocks_of}
use Rattle.vet_run.specs.InputLines.{record_on, record_taken, is_blank_taken, is_unreadable}
use Rattle.vet_run.specs.InputLines.{too_long_text}
use Rattle.vet_run.specs.Pieces.{pieces}
use Rattle.vet_run.specs.Places.{place_text}
use Rattle.vet_run.specs.Records.{keeps, IsWritten}
use Rattle.vet_run.specs.Settings.{source_of, tells}
use Rattle.vet_run.specs.declared.job.Job.{Job}
use Rattle.vet_run.specs.declared.tally.Tally.{Tally}

-- what was taken of a line, what was written for it, and the message about it
pub record Told : Type 0 where
  pub line : Option (List ℕ)
  pub written : List ℕ
  pub message : List ℕ

-- what is written for a line of this number: nothing where no record stands on it
abbrev pub IsLineWritten : Job → Bool → ℕ → List ℕ → Option Data → List ℕ → Type 0
IsLineWritten j room number line None written = written ≡ []
IsLineWritten j room number line (Some d) written = IsWritten j room number line d written

-- the same of what is taken of a line
abbrev pub IsTakenWritten : Job → Bool → ℕ → Option (List ℕ) → List ℕ → Type 0
IsTakenWritten j room number None written = written ≡ []
IsTakenWritten j room number (Some line) written =
    IsLineWritten j room number line (record_on line) written

-- a line with where the line of the input stands, and why no record stands there
abbrev pub message_text : List ℕ → List ℕ → List ℕ
message_text place reason = codes "vet: " ++ (place ++ (codes ": " ++ (reason ++ codes "\n")))

-- the message about a line of this number: none where it is blank or has a record
abbrev pub IsMessageIf : Bool → Job → ℕ → List ℕ → Type 0
IsMessageIf false j number message = message ≡ []
IsMessageIf true j number message =
    (reason : List ℕ)
    × (message ≡ message_text (place_text (source_of j) number) reason)

abbrev pub IsMessage : Job → ℕ → Option (List ℕ) → List ℕ → Type 0
IsMessage j number None message =
    message ≡ message_text (place_text (source_of j) number) (too_long_text j.max_line)
IsMessage j number (Some line) message = IsMessageIf (is_unreadable (Some line)) j number message

-- whether something is written for a record, if one stands there
abbrev pub is_told : Job → Option Data → Bool
is_told j None = false
is_told j (Some d) = tells j.settings.now.report (keeps j.rules.now d)

-- each line from this number on is told, while so much may be written, and so much is left
abbrev pub AreTold : Job → ℕ → Option ℕ → List Told → Option ℕ → Type 0
AreTold j number left [] after = after ≡ left
AreTold j number left (l ∷ ls) after =
    IsTakenWritten j (has_room left) number l.line l.written
    × IsMessage j number l.line l.message
    × AreTold j (number + 1) (left_after (is_told j (record_taken l.line)) left) ls after

abbrev pub lines_of : List Told → List (Option (List ℕ))
lines_of ls = map (λ (l : Told). l.line) ls

-- one more line is told and counted
pub record TakesOne (j : Job) (number : ℕ) (line : Option (List ℕ))
    (writer_before writer_after messages_before messages_after : Option (List ℕ))
    (before after : Tally) : Type 0 where
  pub written : List ℕ
  pub told : IsTakenWritten j (has_room before.left) number line written
  pub appends : Appends writer_before writer_after written
  pub message : List ℕ
  pub says : IsMessage j number line message
  pub messages : Appends messages_before messages_after message
  pub counts : CountsOne (option_map (keeps j.rules.now) (record_taken line))
      (is_blank_taken line) before.counts after.counts
  pub broken : after.broken.items ≡ one_counted j.rules.now (record_taken line) before.broken.items
  pub firsts : TakesOn j number (record_taken line) (blocks_of before) (blocks_of after)
  pub left : after.left ≡ left_after (is_told j (record_taken line)) before.left

-- a run told each line of the input, in order, and counted them
pub record HasRun (j : Job)
    (reader_before reader_after writer_before writer_after
    messages_before messages_after : Option (List ℕ))
    (before after : Tally) : Type 0 where
  pub lines : List Told
  pub whole : ForSome reader_before (λ bytes.
      (lines_of lines ≡ pieces j.format j.max_line Outside bytes)
      × (reader_after ≡ Some []))
  pub told : AreTold j 1 before.left lines after.left
  pub appends : Appends writer_before writer_after (flat_map (λ (l : Told). l.written) lines)
  pub messages : Appends messages_before messages_after (flat_map (λ (l : Told). l.message) lines)
  pub counts : AreCounted j.rules.now (lines_of lines) before.counts after.counts
  pub broken : after.broken.items ≡ all_counted j.rules.now (lines_of lines) before.broken.items
  pub firsts : AreFirsts j 1 (lines_of lines) (blocks_of before) (blocks_of after)

-- a run stopped behind some of the lines, which are counted
pub record HasStopped (j : Job) (reader_before : Option (List ℕ))
    (before after : Tally) : Type 0 where
  pub lines : List (Option (List ℕ))
  pub front : ForSome reader_before (λ bytes.
      (others : List (Option (List ℕ)))
      × (lines ++ others ≡ pieces j.format j.max_line Outside bytes))
  pub counts : AreCounted j.rules.now lines before.counts after.counts
