-- Reading parts one after the other, as a loop does.
use Rattle.std.proofs.Common.{◌≡◌, ℕ, zero, suc, ◌<◌, ◌≤◌, List, [], ◌∷◌, ◌++◌, length, Some, None, Result, Ok, Err, refl, sym, ap, ◌∙◌, arith, append_assoc, append-nil}
use Rattle.vet_rules.specs.declared.fixed.Fixed.{Fixed}
use Rattle.vet_rules.specs.declared.stop.Stop.{Stop}
use Rattle.vet_rules.specs.declared.stop.ReadError.{ReadError}
use Rattle.vet_rules.specs.declared.stop.ReadError.TheVariants as errors
use Rattle.vet_rules.specs.Signs.{Sign}
use Rattle.vet_rules.specs.Answers.{◌>>=◌, Fails}
use Rattle.vet_rules.specs.Reading.{Reader, next_word, parts_at}
use Rattle.vet_rules.proofs.Words.{next_is}

-- what was read before, and what is still read
abbrev pub after_parts : {A : Type 0} → List A → Result (List A × List Sign) Stop → Result (List A × List Sign) Stop
after_parts front read = read >>= λ x. Ok (front ++ x.0, x.1)

regroup : {A : Type 0} (front : List A) (e : A) (read : Result (List A × List Sign) Stop) → after_parts front (read >>= λ x. Ok (e ∷ x.0, x.1)) ≡ after_parts (front ++ e ∷ []) read
regroup front e (Ok x) = ap (λ es. Ok (es, x.1)) (simp append_assoc)
regroup front e (Err f) = refl

pub next_shortens : (w : Fixed) (ts us : List Sign) → next_word w ts ≡ Some us → length us < length ts
next_shortens w ts us p = omega (arith, ap length (next_is w ts us p))

module _ {A : Type 0} (w : Fixed) (part : Reader A) where
  pub no_parts : (k : ℕ) (ts : List Sign) → next_word w ts ≡ None → parts_at k w part ts ≡ Ok ([], ts)
  unfolding parts_at
  no_parts zero ts p = refl
  no_parts (suc k) ts p = rw p refl

  step : (k : ℕ) (ts us rest : List Sign) (e : A) → next_word w ts ≡ Some us → part us ≡ Ok (e, rest) → parts_at (suc k) w part ts ≡ (parts_at k w part rest >>= λ x. Ok (e ∷ x.0, x.1))
  unfolding parts_at
  step k ts us rest e p q = rw (p, q) refl

  failed : (k : ℕ) (ts us : List Sign) (f : Stop) → next_word w ts ≡ Some us → part us ≡ Err f → parts_at (suc k) w part ts ≡ Err f
  unfolding parts_at
  failed k ts us f p q = rw (p, q) refl

  -- parts were read, and for what is left there are turns enough
  abbrev pub Reads : List A → List Sign → Result (List A × List Sign) Stop → Type 0
  Reads front ts total = (k : ℕ) × (length ts ≤ k) × (after_parts front (parts_at k w part ts) ≡ total)

  pub starts : (ts : List Sign) → Reads [] ts (parts_at (length ts) w part ts)
  starts ts = (length ts, omega arith, same (parts_at (length ts) w part ts))
    where
      same : (read : Result (List A × List Sign) Stop) → after_parts [] read ≡ read
      same (Ok x) = refl
      same (Err f) = refl

  pub goes_on : (front : List A) (ts us rest : List Sign) (e : A) (total : Result (List A × List Sign) Stop) → next_word w ts ≡ Some us → part us ≡ Ok (e, rest) → length rest < length us → Reads front ts total → Reads (front ++ e ∷ []) rest total
  goes_on front ts us rest e total p q lt (zero, le, so_far) = absurd (omega (arith, next_shortens w ts us p))
  goes_on front ts us rest e total p q lt (suc k, le, so_far) =
      (k, omega (arith, next_shortens w ts us p), sym (regroup front e (parts_at k w part rest)) ∙ ap (after_parts front) (sym (step k ts us rest e p q)) ∙ so_far)

  pub is_done : (front : List A) (ts : List Sign) (total : Result (List A × List Sign) Stop) → next_word w ts ≡ None → Reads front ts total → total ≡ Ok (front, ts)
  is_done front ts total p r = sym r.2 ∙ ap (after_parts front) (no_parts r.0 ts p) ∙ ap (λ (es : List A). Ok (es, ts)) (append-nil front)

  pub no_part : (e : ReadError) (front : List A) (ts us : List Sign) (total : Result (List A × List Sign) Stop) → next_word w ts ≡ Some us → Fails e (part us) → Reads front ts total → Fails e total
  no_part errors.Memory front ts us total p h r = tt
  no_part (errors.Stopped f) front ts us total p h (zero, le, so_far) = absurd (omega (arith, next_shortens w ts us p))
  no_part (errors.Stopped f) front ts us total p h (suc k, le, so_far) = sym so_far ∙ ap (after_parts front) (failed k ts us f p h)
