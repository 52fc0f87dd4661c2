-- How far a run has come in its input.
use Rattle.std.proofs.Common.{◌≡◌, ℕ, ◌+◌, Bool, true, false, List, [], ◌∷◌, ◌++◌, length, Option, Some, None, Result, Ok, Err, refl, sym, ◌∙◌, ap, subst, arith, append_assoc, append-nil, length-append, if◌then◌else◌, map}
use Rattle.std.specs.Prelude.{flat_map, option_map, string_bytes}
use Rattle.std.specs.Result.{OnErr}
use Rattle.std.specs.Io.KnownBytes.{Appends}
use Rattle.std.proofs.KnownBytes.{Appends-nil, Appends-trans}
use Rattle.std.proofs.lemmas.List.{map-append, length-map}
use Rattle.std.proofs.lemmas.Grind.{flat_map-append}
use Rattle.std.specs.Str.{IsUtf8, is_utf8}
use Rattle.std.proofs.lemmas.Str.{IsUtf8-from_is_utf8, is_utf8-from_IsUtf8}
use Rattle.serde_json.specs.Read.{read}
use Rattle.serde_json.specs.Data.{Data}
use Rattle.vet_run.specs.Counting.{CountsOne, AreCounted, one_counted, all_counted, has_room, left_after}
use Rattle.vet_run.specs.FirstBlocks.{TakesOn, AreFirsts, blocks_of}
use Rattle.vet_run.specs.InputLines.{record_on, record_taken, too_long_text}
use Rattle.vet_run.specs.Pieces.{pieces, TakesPiece, IsOver}
use Rattle.streams.specs.declared.records.position.Position.{Position}
use Rattle.streams.specs.declared.records.position.Position.TheVariants.{Outside}
use Rattle.vet_run.specs.Places.{place_text}
use Rattle.vet_run.specs.Records.{keeps}
use Rattle.vet_run.specs.Runs.{Told, IsTakenWritten, IsMessage, AreTold, is_told, lines_of, message_text, TakesOne, HasRun, HasStopped}
use Rattle.vet_run.specs.Settings.{source_of}
use Rattle.vet_run.specs.declared.job.Job.{Job}
use Rattle.vet_run.specs.declared.tally.Tally.{Tally}
use Rattle.vet_run.proofs.Firsts.{firsts_more}
use Rattle.vet_run.proofs.Counted.{none_counted, counted_more, no_rule_counted, rules_counted_more, unread_counted}

module _ (j : Job) where
  told_more : (number : ℕ) (left : Option ℕ) (ls : List Told) (now : Option ℕ) (l : Told)
      → AreTold j number left ls now
      → IsTakenWritten j (has_room now) (number + length ls) l.line l.written
      → IsMessage j (number + length ls) l.line l.message
      → AreTold j number left (ls ++ l ∷ []) (left_after (is_told j (record_taken l.line)) now)
  told_more number left [] now l h w m =
      let same : number + 0 ≡ number = omega arith in (
        subst (λ p. IsTakenWritten j (has_room p) number l.line l.written) h
            (subst (λ n. IsTakenWritten j (has_room now) n l.line l.written) same w),
        subst (λ n. IsMessage j n l.line l.message) same m,
        ap (left_after (is_told j (record_taken l.line))) h,
      )
  told_more number left (x ∷ ls) now l h w m =
      let same : number + length (x ∷ ls) ≡ number + 1 + length ls = omega arith in (
        h.0,
        h.1,
        told_more (number + 1) (left_after (is_told j (record_taken x.line)) left) ls now l h.2
            (subst (λ n. IsTakenWritten j (has_room now) n l.line l.written) same w)
            (subst (λ n. IsMessage j n l.line l.message) same m),
      )

  -- the lines that are taken are told, and counted
  pub record HasTold (r0 r1 w0 w1 m0 m1 : Option (List ℕ)) (p : Position) (count : ℕ) (before now : Tally) : Type 0 where
    pub lines : List Told
    pub left : (bytes : List ℕ) → r0 ≡ Some bytes
        → (left : List ℕ) × (r1 ≡ Some left) × (pieces j.format j.max_line Outside bytes ≡ lines_of lines ++ pieces j.format j.max_line p left)
    pub counted : length lines ≡ count
    pub told : AreTold j 1 before.left lines now.left
    pub appends : Appends w0 w1 (flat_map (λ (l : Told). l.written) lines)
    pub messages : Appends m0 m1 (flat_map (λ (l : Told). l.message) lines)
    pub counts : AreCounted j.rules.now (lines_of lines) before.counts now.counts
    pub broken : now.broken.items ≡ all_counted j.rules.now (lines_of lines) before.broken.items
    pub firsts : AreFirsts j 1 (lines_of lines) (blocks_of before) (blocks_of now)

  pub has_told_none : (reader writer messages : Option (List ℕ)) (tally : Tally) → HasTold reader reader writer writer messages messages Outside 0 tally tally
  has_told_none reader writer messages tally = record {
    lines = [];
    left = λ bytes known. (bytes, known, refl);
    counted = refl;
    told = refl;
    appends = Appends-nil writer;
    messages = Appends-nil messages;
    counts = none_counted j.rules.now tally.counts;
    broken = sym (no_rule_counted j.rules.now tally.broken.items);
    firsts = refl;
  }

  flat_more : (f : Told → List ℕ) (ls : List Told) (l : Told) → flat_map f (ls ++ l ∷ []) ≡ flat_map f ls ++ f l
  flat_more f ls l = flat_map-append f ls (l ∷ []) ∙ ap (λ z. flat_map f ls ++ z) (append-nil (f l))

  -- of a line that is too long only the message is written
  pub long_one : (number : ℕ) (w m0 m1 : Option (List ℕ)) (before after : Tally)
      → Appends m0 m1 (message_text (place_text (source_of j) number) (too_long_text j.max_line))
      → CountsOne None false before.counts after.counts → after.broken ≡ before.broken → after.firsts ≡ before.firsts → after.left ≡ before.left
      → TakesOne j number None w w m0 m1 before after
  long_one number w m0 m1 before after message counts broken firsts left = record {
    written = [];
    told = refl;
    appends = Appends-nil w;
    message = message_text (place_text (source_of j) number) (too_long_text j.max_line);
    says = refl;
    messages = message;
    counts = counts;
    broken = ap (λ v. v.items) broken ∙ unread_counted j.rules.now None before.broken.items refl;
    firsts = ap (λ v. map string_bytes v.items) firsts;
    left = left;
  }

  -- one more line is taken and told
  pub has_told_more : (r0 r1 r2 w0 w1 w2 m0 m1 m2 : Option (List ℕ)) (p q : Position) (count : ℕ) (before now after : Tally) (line : Option (List ℕ))
      → HasTold r0 r1 w0 w1 m0 m1 p count before now
      → TakesPiece j.format j.max_line r1 r2 p q line
      → TakesOne j (count + 1) line w1 w2 m1 m2 now after
      → HasTold r0 r2 w0 w2 m0 m2 q (count + 1) before after
  has_told_more r0 r1 r2 w0 w1 w2 m0 m1 m2 p q count before now after line h next one =
      let l : Told = record { line = line; written = one.written; message = one.message } in
      let number : count + 1 ≡ 1 + length h.lines = omega (arith, h.counted) in
      let more : lines_of (h.lines ++ l ∷ []) ≡ lines_of h.lines ++ line ∷ [] = map-append (λ (l : Told). l.line) h.lines (l ∷ []) in
      record {
        lines = h.lines ++ l ∷ [];
        left = λ bytes known. let so_far = h.left bytes known in let n = next so_far.0 so_far.1 in (
          n.0,
          n.1,
          so_far.2 ∙ ap (λ others. lines_of h.lines ++ others) n.2
              ∙ sym (append_assoc (lines_of h.lines) (line ∷ []) (pieces j.format j.max_line q n.0))
              ∙ ap (λ xs. xs ++ pieces j.format j.max_line q n.0) (sym more),
        );
        counted = omega (arith, h.counted, length-append h.lines (l ∷ []));
        told = subst (AreTold j 1 before.left (h.lines ++ l ∷ [])) (sym one.left)
            (told_more 1 before.left h.lines now.left l h.told
            (subst (λ n. IsTakenWritten j (has_room now.left) n line one.written) number one.told)
            (subst (λ n. IsMessage j n line one.message) number one.says));
        appends = rw (flat_more (λ (l : Told). l.written) h.lines l) (Appends-trans _ _ _ _ _ h.appends one.appends);
        messages = rw (flat_more (λ (l : Told). l.message) h.lines l) (Appends-trans _ _ _ _ _ h.messages one.messages);
        counts = subst (λ ls. AreCounted j.rules.now ls before.counts after.counts) (sym more)
            (counted_more j.rules.now (lines_of h.lines) line (option_map (keeps j.rules.now) (record_taken line)) before.counts now.counts after.counts refl h.counts one.counts);
        broken = one.broken ∙ ap (one_counted j.rules.now (record_taken line)) h.broken
            ∙ rules_counted_more (lines_of h.lines) line j.rules.now before.broken.items
            ∙ ap (λ ls. all_counted j.rules.now ls before.broken.items) (sym more);
        firsts = subst (λ ls. AreFirsts j 1 ls (blocks_of before) (blocks_of after)) (sym more)
            (firsts_more j 1 (lines_of h.lines) line (blocks_of before) (blocks_of now) (blocks_of after) h.firsts
            (subst (λ n. TakesOn j n (record_taken line) (blocks_of now) (blocks_of after))
            (number ∙ ap (λ n. 1 + n) (sym (length-map h.lines (λ (l : Told). l.line)))) one.firsts));
      }

  -- at the end of the input the run is whole
  pub has_run : (r0 r1 r2 w0 w1 w2 m0 m1 : Option (List ℕ)) (p : Position) (count : ℕ) (before after : Tally)
      → HasTold r0 r1 w0 w1 m0 m1 p count before after
      → IsOver j.format j.max_line r1 r2 p
      → Appends w1 w2 []
      → HasRun j r0 r2 w0 w2 m0 m1 before after
  has_run r0 r1 r2 w0 w1 w2 m0 m1 p count before after h end kept = record {
    lines = h.lines;
    whole = λ bytes known. let so_far = h.left bytes known in let n = end so_far.0 so_far.1 in
        (sym (so_far.2 ∙ ap (λ others. lines_of h.lines ++ others) n.1 ∙ append-nil (lines_of h.lines)), n.0);
    told = h.told;
    appends = subst (Appends w0 w2) (append-nil (flat_map (λ (l : Told). l.written) h.lines)) (Appends-trans _ _ _ _ _ h.appends kept);
    messages = h.messages;
    counts = h.counts;
    broken = h.broken;
    firsts = h.firsts;
  }

  -- behind a fault the lines before it are counted
  pub has_stopped : (r0 r1 w0 w1 m0 m1 : Option (List ℕ)) (p : Position) (count : ℕ) (before now after : Tally)
      → HasTold r0 r1 w0 w1 m0 m1 p count before now → after.counts ≡ now.counts
      → HasStopped j r0 before after
  has_stopped r0 r1 w0 w1 m0 m1 p count before now after h same = record {
    lines = lines_of h.lines;
    front = λ bytes known. let so_far = h.left bytes known in (pieces j.format j.max_line p so_far.0, sym so_far.2);
    counts = subst (AreCounted j.rules.now (lines_of h.lines) before.counts) (sym same) h.counts;
  }

-- a fact that holds anyway
pub on_err : {T E P : Type 0} (r : Result T E) → P → OnErr r P
on_err (Ok x) p = tt
on_err (Err e) p = p

-- ---- the record on a line

none_on : (b : Bool) (read_there : Option Data) → b ≡ false → (if b then read_there else None) ≡ None
none_on b read_there e = ap (λ z. if z then read_there else None) e

some_on : (b : Bool) (read_there : Option Data) → b ≡ true → (if b then read_there else None) ≡ read_there
some_on b read_there e = ap (λ z. if z then read_there else None) e

false_if_not : (line : List ℕ) (b : Bool) → is_utf8 line ≡ b → ¬ (IsUtf8 line) → b ≡ false
false_if_not line true e h = absurd (h (IsUtf8-from_is_utf8 line e))
false_if_not line false e h = refl

pub no_record_on : (line : List ℕ) → ¬ (IsUtf8 line) → record_on line ≡ None
no_record_on line h = none_on (is_utf8 line) (read line) (false_if_not line (is_utf8 line) refl h)

pub record_read : (line source : List ℕ) → source ≡ line → IsUtf8 line → record_on line ≡ read source
record_read line source e h = some_on (is_utf8 line) (read line) (is_utf8-from_IsUtf8 line h) ∙ ap read (sym e)
