-- How far a filter has come in its input.
use Rattle.std.proofs.Common.{◌≡◌, ◌≢◌, ℕ, ◌+◌, ◌≤◌, Bool, true, false, not, List, [], ◌∷◌, ◌++◌, length, Option, None, Some, Result, Ok, Err, refl, sym, ◌∙◌, ap, arith, append_assoc, append-nil, length-append, if◌then◌else◌, map}
use Rattle.std.specs.Prelude.{filter, flat_map, is_none, IfErr}
use Rattle.std.specs.Io.KnownBytes.{Appends, Keeps}
use Rattle.std.proofs.KnownBytes.{Appends-nil, Appends-trans, Appends-kept}
use Rattle.std.proofs.lemmas.List.{map-append}
use Rattle.std.proofs.lemmas.Grind.{flat_map-append}
use Rattle.std.proofs.lemmas.List.Filters.{length-filter_both}
use Rattle.std.proofs.lemmas.List.Elements.{All-nil, All-push, filter-append}
use Rattle.streams.specs.Lines.{ended_lines}
use Rattle.explain_run.specs.Runs.{IsBehindLines}
use Rattle.explain_run.specs.Filtered.{Judged, HasJudgedTelling, HasPassed, HasStopped, at_input, at_output}
use Rattle.explain_run.specs.declared.filter.Filtered.{Filtered}
use Rattle.streams.specs.declared.run_fault.RunFault.{RunFault}
use Rattle.streams.specs.declared.run_fault.RunFault.TheVariants.{NoMemory, Input, Output}
use Rattle.explain_run.proofs.Progress.{AreAnswers-more}

-- one more line counts where it passes the test
filter-more : (p : Judged → Bool) (lines : List Judged) (l : Judged) (b : Bool) → p l ≡ b
    → length (filter p (lines ++ l ∷ [])) ≡ length (filter p lines) + (if b then 1 else 0)
filter-more p lines l true e = ap length (filter-append p lines (l ∷ [])) ∙ length-append (filter p lines) (filter p (l ∷ [])) ∙ (rw e refl)
filter-more p lines l false e = ap length (filter-append p lines (l ∷ [])) ∙ length-append (filter p lines) (filter p (l ∷ [])) ∙ (rw e refl)

flat-more : (p : Judged → Bool) (lines : List Judged) (l : Judged) (b : Bool) → p l ≡ b
    → flat_map (λ (l : Judged). l.0) (filter p (lines ++ l ∷ [])) ≡ flat_map (λ (l : Judged). l.0) (filter p lines) ++ (if b then l.0 else [])
flat-more p lines l true e =
    ap (flat_map (λ (l : Judged). l.0)) (filter-append p lines (l ∷ [])) ∙ flat_map-append (λ (l : Judged). l.0) (filter p lines) (filter p (l ∷ []))
    ∙ ap (λ xs. flat_map (λ (l : Judged). l.0) (filter p lines) ++ xs) (rw e (append-nil l.0))
flat-more p lines l false e =
    ap (flat_map (λ (l : Judged). l.0)) (filter-append p lines (l ∷ [])) ∙ flat_map-append (λ (l : Judged). l.0) (filter p lines) (filter p (l ∷ []))
    ∙ ap (λ xs. flat_map (λ (l : Judged). l.0) (filter p lines) ++ xs) (rw e refl)

module _ (Has : List ℕ → Option Bool → Type 0) (kept : Option Bool → Bool) (IsTold : ℕ → Judged → List ℕ → Type 0) where
  pub has_passed_none : (reader writer reasons : Option (List ℕ))
      → HasPassed Has kept IsTold reader reader writer writer reasons reasons 0 (record { written = 0; not_utf8 = 0 })
  has_passed_none reader writer reasons = record {
    lines = [];
    left = λ bytes known. (bytes, known, refl);
    counted = refl;
    verdicts = All-nil (λ (l : Judged). Has l.0 l.1);
    appends = Appends-nil writer;
    written = refl;
    not_utf8 = refl;
    told = [];
    tells = Appends-nil reasons;
    reasons = refl;
  }

  -- one more line is taken and judged
  pub has_passed_more : (r0 r1 r2 w0 w1 w2 t0 t1 t2 : Option (List ℕ)) (count : ℕ) (before after : Filtered) (line more : List ℕ) (verdict : Option Bool)
      → HasPassed Has kept IsTold r0 r1 w0 w1 t0 t1 count before
      → ((bytes : List ℕ) → r1 ≡ Some bytes → (left : List ℕ) × (r2 ≡ Some left) × (ended_lines bytes ≡ line ∷ ended_lines left))
      → Has line verdict → Appends w1 w2 (if kept verdict then line else [])
      → IsTold (count + 1) (line, verdict) more → Appends t1 t2 more
      → after.written ≡ before.written + (if kept verdict then 1 else 0)
      → after.not_utf8 ≡ before.not_utf8 + (if is_none verdict then 1 else 0)
      → HasPassed Has kept IsTold r0 r2 w0 w2 t0 t2 (count + 1) after
  has_passed_more r0 r1 r2 w0 w1 w2 t0 t1 t2 count before after line more verdict h next judged appends told tells written not_utf8 =
      let l : Judged = (line, verdict) in
      let p : Judged → Bool = λ l. kept l.1 in
      let q : Judged → Bool = λ l. is_none l.1 in
      record {
        lines = h.lines ++ l ∷ [];
        left = λ bytes known. let so_far = h.left bytes known in let n = next so_far.0 so_far.1 in (
          n.0,
          n.1,
          so_far.2 ∙ ap (λ others. map (λ (l : Judged). l.0) h.lines ++ others) n.2
              ∙ sym (append_assoc (map (λ (l : Judged). l.0) h.lines) (line ∷ []) (ended_lines n.0))
              ∙ ap (λ xs. xs ++ ended_lines n.0) (sym (map-append (λ (l : Judged). l.0) h.lines (l ∷ []))),
        );
        counted = omega (arith, h.counted, length-append h.lines (l ∷ []));
        verdicts = All-push (λ (l : Judged). Has l.0 l.1) h.lines l h.verdicts judged;
        appends = rw (flat-more p h.lines l (kept verdict) refl) (Appends-trans _ _ _ _ _ h.appends appends);
        written = written ∙ ap (λ n. n + (if kept verdict then 1 else 0)) h.written ∙ sym (filter-more p h.lines l (kept verdict) refl);
        not_utf8 = not_utf8 ∙ ap (λ n. n + (if is_none verdict then 1 else 0)) h.not_utf8 ∙ sym (filter-more q h.lines l (is_none verdict) refl);
        told = h.told ++ more;
        tells = Appends-trans _ _ _ _ _ h.tells tells;
        reasons = AreAnswers-more IsTold 1 h.lines l h.told more h.reasons
            (let same : 1 + length h.lines ≡ count + 1 = omega (arith, h.counted) in rw same told);
      }

  -- the input is at its end, and both writers are flushed
  pub has_passed_all : (r0 r1 r2 w0 w1 w2 t0 t1 t2 : Option (List ℕ)) (count : ℕ) (counts : Filtered)
      → HasPassed Has kept IsTold r0 r1 w0 w1 t0 t1 count counts
      → ((bytes : List ℕ) → r1 ≡ Some bytes → (r2 ≡ Some []) × (ended_lines bytes ≡ []))
      → Keeps w1 w2 → Keeps t1 t2 → HasJudgedTelling Has kept IsTold r0 r2 w0 w2 t0 t2 counts
  has_passed_all r0 r1 r2 w0 w1 w2 t0 t1 t2 count counts h end flushed told = record {
    filtered = record {
      lines = h.lines;
      whole = λ bytes known. let so_far = h.left bytes known in let e = end so_far.0 so_far.1 in (
        sym (so_far.2 ∙ ap (λ others. map (λ (l : Judged). l.0) h.lines ++ others) e.1 ∙ append-nil (map (λ (l : Judged). l.0) h.lines)),
        e.0,
      );
      verdicts = h.verdicts;
      appends = Appends-kept _ _ _ _ h.appends flushed;
      written = h.written;
      not_utf8 = h.not_utf8;
    };
    told = h.told;
    tells = Appends-kept _ _ _ _ h.tells told;
    reasons = h.reasons;
  }

  -- one more line is taken
  pub behind_more : {r0 r1 r2 w0 w1 t0 t1 : Option (List ℕ)} {count : ℕ} {counts : Filtered} {line : List ℕ}
      → HasPassed Has kept IsTold r0 r1 w0 w1 t0 t1 count counts
      → ((bytes : List ℕ) → r1 ≡ Some bytes → (left : List ℕ) × (r2 ≡ Some left) × (ended_lines bytes ≡ line ∷ ended_lines left))
      → IsBehindLines r0 r2
  behind_more {line = line} h next =
      let taken = map (λ (l : Judged). l.0) h.lines in (
        taken ++ line ∷ [],
        λ bytes known. let so_far = h.left bytes known in let n = next so_far.0 so_far.1 in (
          n.0,
          n.1,
          so_far.2 ∙ ap (λ others. taken ++ others) n.2 ∙ sym (append_assoc taken (line ∷ []) (ended_lines n.0)),
        ),
      )

  -- the input is at its end
  pub behind_all : {r0 r1 r2 w0 w1 t0 t1 : Option (List ℕ)} {count : ℕ} {counts : Filtered}
      → HasPassed Has kept IsTold r0 r1 w0 w1 t0 t1 count counts
      → ((bytes : List ℕ) → r1 ≡ Some bytes → (r2 ≡ Some []) × (ended_lines bytes ≡ []))
      → IsBehindLines r0 r2
  behind_all h end =
      let taken = map (λ (l : Judged). l.0) h.lines in (
        taken,
        λ bytes known. let so_far = h.left bytes known in let e = end so_far.0 so_far.1 in
            ([], e.0, so_far.2 ∙ ap (λ others. taken ++ others) e.1),
      )

  -- the input could not be read
  pub until_input : {r0 r1 w0 w1 t0 t1 : Option (List ℕ)} {count : ℕ} {counts : Filtered} {fault : RunFault} (r2 : Option (List ℕ))
      → HasPassed Has kept IsTold r0 r1 w0 w1 t0 t1 count counts → fault ≢ Output → HasStopped Has kept IsTold r0 r2 w0 w1 t0 t1 fault
  until_input r2 h other = at_input _ _ _ h other

  -- a write failed, or memory was refused behind a line
  pub until_output : {r0 r2 : Option (List ℕ)} {fault : RunFault} → IsBehindLines r0 r2 → fault ≢ Input
      → (w0 w1 t0 t1 : Option (List ℕ)) → HasStopped Has kept IsTold r0 r2 w0 w1 t0 t1 fault
  until_output behind other = λ w0 w1 t0 t1. at_output behind other

  pub until_memory : {r0 r2 : Option (List ℕ)} → IsBehindLines r0 r2
      → (fault : RunFault) → fault ≡ NoMemory → (w0 w1 t0 t1 : Option (List ℕ)) → HasStopped Has kept IsTold r0 r2 w0 w1 t0 t1 fault
  until_memory behind = λ fault is w0 w1 t0 t1. at_output behind (λ e. absurd (cc))

  -- nothing is said of what was told
  pub untold : {A : Type 0} (r0 r1 w0 w1 t0 t1 : Option (List ℕ)) (r : Result A RunFault)
      → IfErr r (HasStopped Has kept IsTold r0 r1 w0 w1 t0 t1) → IfErr r (HasStopped Has kept IsTold r0 r1 w0 w1 None None)
  untold r0 r1 w0 w1 t0 t1 (Ok x) h = tt
  untold r0 r1 w0 w1 t0 t1 (Err fault) (at_output behind other) = at_output behind other
  untold r0 r1 w0 w1 t0 t1 (Err fault) (at_input now count counts h other) = at_input now count counts (record {
    lines = h.lines;
    left = h.left;
    counted = h.counted;
    verdicts = h.verdicts;
    appends = h.appends;
    written = h.written;
    not_utf8 = h.not_utf8;
    told = h.told;
    tells = tt;
    reasons = h.reasons;
  }) other

  -- no more lines are counted than are taken
  pub written_within : {r0 r1 w0 w1 t0 t1 : Option (List ℕ)} {count : ℕ} {counts : Filtered} → HasPassed Has kept IsTold r0 r1 w0 w1 t0 t1 count counts → counts.written ≤ count
  written_within h = omega (arith, h.written, h.counted, length-filter_both (λ (l : Judged). kept l.1) (λ (l : Judged). not (kept l.1)) (λ _. refl) h.lines)

  pub not_utf8_within : {r0 r1 w0 w1 t0 t1 : Option (List ℕ)} {count : ℕ} {counts : Filtered} → HasPassed Has kept IsTold r0 r1 w0 w1 t0 t1 count counts → counts.not_utf8 ≤ count
  not_utf8_within h = omega (arith, h.not_utf8, h.counted, length-filter_both (λ (l : Judged). is_none l.1) (λ (l : Judged). not (is_none l.1)) (λ _. refl) h.lines)
