-- Taking tokens one after the other, as a loop does.
use Rattle.std.proofs.Common.{◌≡◌, ℕ, true, false, List, [], ◌∷◌, ◌++◌, length, Some, None, Result, Ok, Err, refl, sym, ap, subst, ◌∙◌, arith, append_assoc}
use Rattle.std.proofs.lemmas.Bool.Decides.{nat_tests}
use Rattle.std.proofs.lemmas.Option.{cond_some}
use Rattle.vet_rules.specs.declared.lexer.Class.TheVariants.{Other}
use Rattle.vet_rules.specs.declared.stop.Stop.{Stop}
use Rattle.vet_rules.specs.declared.stop.ReadError.{ReadError}
use Rattle.vet_rules.specs.declared.stop.ReadError.TheVariants as errors
use Rattle.vet_rules.specs.Answers.{Fails, IsStop}
use Rattle.vet_rules.specs.Signs as signs
use Rattle.vet_rules.specs.Signs.{Sign}
use Rattle.vet_rules.specs.Lexemes.{is_space, is_over, class_of, IsLexed, over, space, token}
use Rattle.vet_rules.specs.Scanning.{token_at, after_space}
use Rattle.vet_rules.specs.Faults.{NoToken, no_token_here, behind_space_fault, past_token_fault}
use Rattle.vet_rules.proofs.Loop.{ok_is}
use Rattle.vet_rules.proofs.Lexed.{token_again, token_found, shorter, no_sign}

space_is_other : (b : ℕ) → is_space b ≡ true → class_of b ≡ Other
space_is_other b h = grind (arith, nat_tests)

over_is_other : (b : ℕ) → is_over (b ∷ []) ≡ true → class_of b ≡ Other
over_is_other b h = grind (arith, nat_tests)

space_is_not_over : (b : ℕ) → is_space b ≡ true → is_over (b ∷ []) ≡ true → ⊥
space_is_not_over b h k = grind (arith, nat_tests)

no_token_at : (b : ℕ) (text : List ℕ) (x : Sign × List ℕ) → class_of b ≡ Other → token_at (b ∷ text) ≡ Ok x → ⊥
no_token_at b text x c h = no_sign b text x c h

-- what is behind a space
pub behind_space : (b : ℕ) (text : List ℕ) (ts : List (Sign × ℕ)) → is_space b ≡ true → IsLexed (b ∷ text) ts → IsLexed text ts
behind_space b text ts h (over o) = absurd (space_is_not_over b h o)
behind_space b text ts h (space s d) = d
behind_space b text ts h (token {t = t} {word = word} {rest = rest} c w d) = absurd (no_token_at b text (t, rest) (space_is_other b h) (token_again (b ∷ text) t word rest c w))

-- what begins with a token
abbrev pub Begins : List ℕ → Sign → List ℕ → List (Sign × ℕ) → Type 0
Begins text t rest ts = (us : List (Sign × ℕ)) × (ts ≡ (t, length text) ∷ us) × IsLexed rest us

no_token_over : (text : List ℕ) (x : Sign × List ℕ) → is_over text ≡ true → token_at text ≡ Ok x → ⊥
no_token_over [] x o h = let s = shorter [] x.0 x.1 h in omega arith
no_token_over (b ∷ text) x o h = no_token_at b text x (over_is_other b o) h

pub behind_token : (text : List ℕ) (ts : List (Sign × ℕ)) (t : Sign) (rest : List ℕ) → token_at text ≡ Ok (t, rest) → IsLexed text ts → Begins text t rest ts
behind_token text ts t rest h (over o) = absurd (no_token_over text (t, rest) o h)
behind_token text ts t rest h (space {b = b} {text = u} s d) = absurd (no_token_at b u (t, rest) (space_is_other b s) h)
behind_token text ts t rest h (token {ts = us} {t = t'} {word = word} {rest = rest'} c w d) =
    let again : token_at text ≡ Ok (t', rest') = token_again text t' word rest' c w in
    let same : (t', rest') ≡ (t, rest) = ok_is (t', rest') (t, rest) (sym again ∙ h) in
    (us, ap (λ (x : Sign × List ℕ). (x.0, length text) ∷ us) same, subst (λ (x : Sign × List ℕ). IsLexed x.1 us) same d)

-- no token at the front, no space and not the end
pub no_more : (text : List ℕ) (ts : List (Sign × ℕ)) (s : Stop) → is_over text ≡ false → after_space text ≡ None → token_at text ≡ Err s → IsLexed text ts → ⊥
no_more text ts s goes other h (over o) = cc
no_more text ts s goes other h (space {b = b} {text = u} p d) = let made : after_space (b ∷ u) ≡ Some u = rw p refl in cc
no_more text ts s goes other h (token {t = t} {word = word} {rest = rest} c w d) =
    let again : token_at text ≡ Ok (t, rest) = token_again text t word rest c w in
    let both : ◌≡◌ {A = Result (Sign × List ℕ) Stop} (Ok (t, rest)) (Err s) = sym again ∙ h in
    cc

-- a token goes in front
pub with_token : (text : List ℕ) (us : List (Sign × ℕ)) (t : Sign) (rest : List ℕ) → token_at text ≡ Ok (t, rest) → IsLexed rest us → IsLexed text ((t, length text) ∷ us)
with_token text us t rest h d =
    let f = token_found text t rest h in
    token f.1 f.2 d

nothing_left : (text : List ℕ) (ts : List (Sign × ℕ)) → is_over text ≡ true → IsLexed text ts → ts ≡ (signs.End, length text) ∷ []
nothing_left text ts e (over o) = refl
nothing_left text ts e (space {b = b} s d) = absurd (space_is_not_over b s e)
nothing_left text ts e (token {t = t} {word = word} {rest = rest} c w d) = absurd (no_token_over text (t, rest) e (token_again text t word rest c w))

pub space_is : (text rest : List ℕ) → after_space text ≡ Some rest → (b : ℕ) × (text ≡ b ∷ rest) × (is_space b ≡ true)
space_is [] rest e = absurd cc
space_is (b ∷ text) rest e = let p = cond_some (is_space b) text rest e in (b, ap (λ (u : List ℕ). b ∷ u) p.1, p.0)

-- what was taken so far, and what is left
pub record Goes (text left : List ℕ) (front : List (Sign × ℕ)) : Type 0 where
  pub found : (ts : List (Sign × ℕ)) → IsLexed left ts → IsLexed text (front ++ ts)
  pub only : (ts : List (Sign × ℕ)) → IsLexed text ts → (us : List (Sign × ℕ)) × (ts ≡ front ++ us) × IsLexed left us
  pub stops : (s : Stop) → NoToken left s → NoToken text s

pub starts : (text : List ℕ) → Goes text text []
starts text = record { found = λ ts d. d; only = λ ts d. (ts, refl, d); stops = λ s d. d }

pub past_space : (text left rest : List ℕ) (front : List (Sign × ℕ)) → after_space left ≡ Some rest → Goes text left front → Goes text rest front
past_space text left rest front h g =
    let p = space_is left rest h in
    record {
      found = λ ts d. g.found ts (subst (λ (u : List ℕ). IsLexed u ts) (sym p.1) (space p.2 d));
      only = λ ts d. let o = g.only ts d in (o.0, o.1, behind_space p.0 rest o.0 p.2 (subst (λ (u : List ℕ). IsLexed u o.0) p.1 o.2));
      stops = λ s d. g.stops s (subst (λ (u : List ℕ). NoToken u s) (sym p.1) (behind_space_fault p.2 d));
    }

pub past_token : (text left : List ℕ) (front : List (Sign × ℕ)) (t : Sign) (rest : List ℕ) → token_at left ≡ Ok (t, rest) → Goes text left front → Goes text rest (front ++ (t, length left) ∷ [])
past_token text left front t rest h g =
    record {
      found = λ ts d. subst (λ (us : List (Sign × ℕ)). IsLexed text us) (sym (append_assoc front ((t, length left) ∷ []) ts)) (g.found ((t, length left) ∷ ts) (with_token left ts t rest h d));
      only = λ ts d.
          let o = g.only ts d in
          let b = behind_token left o.0 t rest h o.2 in
          (b.0, o.1 ∙ ap (λ (us : List (Sign × ℕ)). front ++ us) b.1 ∙ sym (append_assoc front ((t, length left) ∷ []) b.0), b.2);
      stops = λ s d. let f = token_found left t rest h in g.stops s (past_token_fault f.1 f.2 d);
    }

pub all_found : (text left : List ℕ) (front : List (Sign × ℕ)) → is_over left ≡ true → Goes text left front → IsLexed text (front ++ (signs.End, length left) ∷ [])
all_found text left front e g = g.found ((signs.End, length left) ∷ []) (over e)

pub only_these : (text left : List ℕ) (front ts : List (Sign × ℕ)) → is_over left ≡ true → Goes text left front → IsLexed text ts → ts ≡ front ++ (signs.End, length left) ∷ []
only_these text left front ts e g d =
    let o = g.only ts d in
    let n = nothing_left left o.0 e o.2 in
    o.1 ∙ ap (λ (us : List (Sign × ℕ)). front ++ us) n

pub cannot : (e : ReadError) (text left : List ℕ) (front ts : List (Sign × ℕ)) → is_over left ≡ false → after_space left ≡ None → Fails e (token_at left) → Goes text left front → IsLexed text ts → Fails {Y = List (Sign × ℕ)} e (Ok ts)
cannot errors.Memory text left front ts goes other h g d = tt
cannot (errors.Stopped s) text left front ts goes other h g d = let o = g.only ts d in absurd (no_more left o.0 s goes other h o.2)

-- a text is tokens in one way at most
pub one_lexing : {text : List ℕ} {ts us : List (Sign × ℕ)} → IsLexed text ts → IsLexed text us → ts ≡ us
one_lexing {text = text} {us = us} (over o) d = sym (nothing_left text us o d)
one_lexing {us = us} (space {b = b} {text = text} s c) d = one_lexing c (behind_space b text us s d)
one_lexing {text = text} {us = us} (token {ts = ts} {t = t} {word = word} {rest = rest} c w e) d =
    let b = behind_token text us t rest (token_again text t word rest c w) d in
    ap (λ (vs : List (Sign × ℕ)). (t, length text) ∷ vs) (one_lexing e b.2) ∙ sym b.1

pub stopped : (e : ReadError) (text left : List ℕ) (front : List (Sign × ℕ)) → is_over left ≡ false → after_space left ≡ None → Fails e (token_at left) → Goes text left front → IsStop (NoToken text) e
stopped errors.Memory text left front goes other h g = tt
stopped (errors.Stopped s) text left front goes other h g = g.stops s (no_token_here goes other h)
