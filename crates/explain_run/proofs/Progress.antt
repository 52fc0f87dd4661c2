-- A run over lines that tells of each has answered each.
use Rattle.std.proofs.Common.{◌≡◌, ℕ, ◌+◌, Bool, false, List, [], ◌∷◌, ◌++◌, length, All, Option, Some, None, ◌↔◌, IsTrue, refl, sym, ◌∙◌, ap, arith, append_assoc, append-nil, add-zero, map}
use Rattle.std.specs.Prelude.{filter, is_none}
use Rattle.std.specs.Io.BufRead.{strip_last}
use Rattle.std.proofs.lemmas.List.{map-append}
use Rattle.std.proofs.lemmas.List.Elements.{All-nil, All-cons, All-head, All-tail}
use Rattle.explain_run.specs.Filtered.{Judged, HasJudgedTelling, HasStopped, at_input, at_output}
use Rattle.explain_run.specs.Runs.{AreAnswers, IsItemVerdict, IsToldAs, HasRun, HasRunUntil, unread, unwritten}
use Rattle.streams.specs.Lines.{ended_lines}
use Rattle.streams.specs.declared.run_fault.RunFault.{RunFault}
use Rattle.explain_run.specs.declared.filter.Filtered.{Filtered}

-- an answer after others
pub AreAnswers-more : {Line : Type 0} (IsAnswer : ℕ → Line → List ℕ → Type 0) (number : ℕ) (done : List Line) (line : Line) (written more : List ℕ)
    → AreAnswers IsAnswer number done written → IsAnswer (number + length done) line more
    → AreAnswers IsAnswer number (done ++ line ∷ []) (written ++ more)
AreAnswers-more IsAnswer number [] line written more e answer =
    (more, [], rw e (sym (append-nil more)), rw add-zero at answer, refl)
AreAnswers-more IsAnswer number (first ∷ done) line written more (a, b, e, answers, others) answer =
    let same : number + length (first ∷ done) ≡ number + 1 + length done = omega arith in
    let next : IsAnswer (number + 1 + length done) line more = rw same at answer in
    (a, b ++ more, rw e (append_assoc a b more), answers, AreAnswers-more IsAnswer (number + 1) done line b more others next)

-- the lines without their line feeds
abbrev bare : List Judged → List (List ℕ)
bare lines = map (λ line. strip_last 10 line) (map (λ (l : Judged). l.0) lines)

module _ (IsAnswer : ℕ → List ℕ → List ℕ → Type 0) (IsItem : List ℕ → Type 0) where
  answered : (number : ℕ) (lines : List Judged) (told : List ℕ) → AreAnswers (IsToldAs IsAnswer) number lines told
      → AreAnswers IsAnswer number (bare lines) told
  answered number [] told e = e
  answered number (l ∷ lines) told (first, rest, e, answer, others) = (first, rest, e, answer, answered (number + 1) lines rest others)

  all_items : (lines : List Judged) → All (λ (l : Judged). IsItemVerdict IsItem l.0 l.1) lines
      → (length (filter (λ (l : Judged). is_none l.1) lines) ≡ 0) ↔ All IsItem (bare lines)
  all_items [] verdicts = (λ _. All-nil IsItem, λ _. refl)
  all_items ((line, Some verdict) ∷ lines) verdicts =
      let others = all_items lines (All-tail (λ (l : Judged). IsItemVerdict IsItem l.0 l.1) (line, Some verdict) lines verdicts) in
      let item = All-head (λ (l : Judged). IsItemVerdict IsItem l.0 l.1) (line, Some verdict) lines verdicts in
      (λ none. All-cons IsItem (strip_last 10 line) (bare lines) item (others.0 none), λ every. others.1 (All-tail IsItem (strip_last 10 line) (bare lines) every))
  all_items ((line, None) ∷ lines) verdicts =
      let other = All-head (λ (l : Judged). IsItemVerdict IsItem l.0 l.1) (line, None) lines verdicts in
      (λ none. absurd (omega (arith, none)), λ every. absurd (other (All-head IsItem (strip_last 10 line) (bare lines) every)))

  pub has_run : {r0 r1 w0 w1 t0 t1 : Option (List ℕ)} {counts : Filtered} {all : Bool}
      → HasJudgedTelling (IsItemVerdict IsItem) (λ _. false) (IsToldAs IsAnswer) r0 r1 w0 w1 t0 t1 counts
      → IsTrue all ↔ (counts.not_utf8 ≡ 0) → HasRun IsAnswer IsItem r0 r1 t0 t1 all
  has_run h is =
      let judged = h.filtered in
      let items = all_items judged.lines judged.verdicts in
      record {
        taken = bare judged.lines;
        written = h.told;
        whole = λ bytes known. let whole = judged.whole bytes known in (ap (map (λ line. strip_last 10 line)) whole.0, whole.1);
        appends = h.tells;
        answers = answered 1 judged.lines h.told h.reasons;
        items = (λ yes. items.0 (sym judged.not_utf8 ∙ is.0 yes), λ every. is.1 (judged.not_utf8 ∙ items.1 every));
      }

  pub run_until : {r0 r1 w0 w1 t0 t1 : Option (List ℕ)} {fault : RunFault}
      → HasStopped (IsItemVerdict IsItem) (λ _. false) (IsToldAs IsAnswer) r0 r1 w0 w1 t0 t1 fault → HasRunUntil IsAnswer r0 r1 t0 t1 fault
  run_until (at_input now count counts h other) =
      unread (bare h.lines) h.told (λ bytes known. let so_far = h.left bytes known in (
        map (λ line. strip_last 10 line) (ended_lines so_far.0),
        ap (map (λ line. strip_last 10 line)) so_far.2
            ∙ map-append (λ line. strip_last 10 line) (map (λ (l : Judged). l.0) h.lines) (ended_lines so_far.0),
      )) h.tells (answered 1 h.lines h.told h.reasons) other
  run_until (at_output behind other) = unwritten behind other
