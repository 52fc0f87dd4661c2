-- From the bytes to the expression, and back to the place of a fault.
use Rattle.std.proofs.Common.{◌≡◌, true≢false, ℕ, zero, suc, ◌-◌, List, [], ◌∷◌, map, length, drop, Option, Some, None, Result, Ok, Err, refl, sym, ap, subst, ◌∙◌}
use Rattle.std.specs.Prelude.{true, false}
use Rattle.vet_rules.specs.declared.token.Token.{Token}
use Rattle.vet_rules.specs.declared.stop.Stop.{Stop}
use Rattle.vet_rules.specs.declared.stop.ReadError.{ReadError}
use Rattle.vet_rules.specs.declared.stop.ReadError.TheVariants as errors
use Rattle.vet_rules.specs.declared.expression.Expression.{Expression}
use Rattle.vet_rules.specs.Signs.{Sign, signs}
use Rattle.vet_rules.specs.Trees.{Tree, tree_of}
use Rattle.vet_rules.specs.Grammar.{IsSpelled, max_depth}
use Rattle.vet_rules.specs.Answers.{Gives, Fails, IsStop, IsSyntax}
use Rattle.vet_rules.specs.Reading.{all_of}
use Rattle.vet_rules.specs.Lexemes.{IsLexed, is_over}
use Rattle.vet_rules.specs.Scanning.{placed}
use Rattle.vet_rules.specs.Heading.{head_at}
use Rattle.vet_rules.specs.Rules.{Says, after_spaces, Heads, IsLine, blank, rule}
use Rattle.vet_rules.specs.Faults.{NoToken, first_left, left_behind, error_in_bytes, IsFault, no_token, no_expression, IsLineFault, no_head, no_rule}
use Rattle.vet_rules.proofs.Loop.{ok_is}
use Rattle.vet_rules.proofs.LexLoop.{one_lexing}
use Rattle.vet_rules.proofs.Lines.{head_again, head_is, heads_not_blank}

dropped : (n : ℕ) (ts : List Token) → map placed (drop n ts) ≡ drop n (map placed ts)
dropped zero ts = refl
dropped (suc n) [] = refl
dropped (suc n) (t ∷ ts) = dropped n ts

long : (ts : List Token) → length (map placed ts) ≡ length ts
long [] = refl
long (t ∷ ts) = ap suc (long ts)

pub left_is : (ts : List Token) (left : ℕ) → first_left (map placed (drop (length ts - left) ts)) ≡ left_behind (map placed ts) left
left_is ts left = ap first_left (dropped (length ts - left) ts) ∙ ap (λ (n : ℕ). first_left (drop (n - left) (map placed ts))) (sym (long ts))

firsts : (ts : List Token) → map (λ x. x.0) (map placed ts) ≡ signs ts
firsts [] = refl
firsts (t ∷ ts) = rw (firsts ts) refl

pub said : (n : ℕ) (text : List ℕ) (ts : List Token) (e : Tree) → IsLexed text (map placed ts) → IsSpelled n (signs ts) e → Says n text e
said n text ts e d h = (map placed ts, d, subst (λ (us : List Sign). IsSpelled n us e) (sym (firsts ts)) h)

-- what a text says is spelled by its tokens
spelled : (n : ℕ) (text : List ℕ) (ts : List Token) (e : Tree) → IsLexed text (map placed ts) → Says n text e → IsSpelled n (signs ts) e
spelled n text ts e d (us, c, s) = subst (λ (vs : List Sign). IsSpelled n vs e) (ap (map (λ (t : Sign × ℕ). t.0)) (one_lexing c d) ∙ firsts ts) s

pub said_only : (n : ℕ) (text : List ℕ) (ts : List Token) (r : Result Expression ReadError) → IsLexed text (map placed ts) → ((e : Tree) → IsSpelled n (signs ts) e → Gives tree_of r (Ok e)) → (e : Tree) → Says n text e → Gives tree_of r (Ok e)
said_only n text ts r d h e s = h e (spelled n text ts e d s)

pub token_fault : (e : ReadError) (text : List ℕ) → IsStop (NoToken text) e → IsStop (IsFault text) e
token_fault errors.Memory text h = tt
token_fault (errors.Stopped s) text h = no_token h

pub not_said : (n : ℕ) (text : List ℕ) (ts : List Token) (x : ReadError) → IsLexed text (map placed ts) → ((e : Tree) → IsSpelled n (signs ts) e → Fails {Y = Tree} x (Ok e)) → (e : Tree) → Says n text e → Fails {Y = Tree} (error_in_bytes (map placed ts) x) (Ok e)
not_said n text ts errors.Memory d h e s = tt
not_said n text ts (errors.Stopped f) d h e s = let bad = h e (spelled n text ts e d s) in absurd cc

pub never_said : (text : List ℕ) (ts : List Token) (x : ReadError) → IsLexed text (map placed ts) → (IsSyntax x → (n : ℕ) (t : Tree) → IsSpelled n (signs ts) t → ⊥) → IsSyntax (error_in_bytes (map placed ts) x) → (n : ℕ) (t : Tree) → Says n text t → ⊥
never_said text ts errors.Memory d h x n t s = absurd x
never_said text ts (errors.Stopped f) d h x n t s = h x n t (spelled n text ts t d s)

pub expression_fault : (text : List ℕ) (ts : List Token) (x : ReadError) → IsLexed text (map placed ts) → Fails x (all_of max_depth (signs ts)) → IsStop (IsFault text) (error_in_bytes (map placed ts) x)
expression_fault text ts errors.Memory d h = tt
expression_fault text ts (errors.Stopped s) d h = no_expression (map placed ts) s d (ap (all_of max_depth) (firsts ts) ∙ h) refl

-- ---- lines

-- a line with this head and no rule
headed : {n : ℕ} {line name text : List ℕ} {o : Option (List ℕ × Tree)} → Heads line name text → IsLine n line o → (e : Tree) × (o ≡ Some (name, e)) × Says n text e
headed {line = line} {name = name} {text = text} h (blank o) = absurd (heads_not_blank line name text h o)
headed {n = n} {line = line} {name = name} {text = text} h (rule {name = other} {text = rest} {e = e} k s) =
    let same : (other, rest) ≡ (name, text) = ok_is (other, rest) (name, text) (sym (head_again line other rest k) ∙ head_again line name text h) in
    (e, ap (λ (x : List ℕ × List ℕ). Some (x.0, e)) same, subst (λ (x : List ℕ × List ℕ). Says n x.1 e) same s)

blank_only : {n : ℕ} {line : List ℕ} {o : Option (List ℕ × Tree)} → is_over (after_spaces line) ≡ true → IsLine n line o → o ≡ None
blank_only c (blank d) = refl
blank_only {line = line} c (rule {name = name} {text = text} h s) = absurd (heads_not_blank line name text h c)

pub only_blank : {n : ℕ} (line front : List ℕ) {o : Option (List ℕ × Tree)} → front ≡ after_spaces line → is_over front ≡ true → IsLine n line o → ◌≡◌ {A = Result (Option (List ℕ × Tree)) Stop} (Ok o) (Ok None)
only_blank line front same c d = ap (λ (p : Option (List ℕ × Tree)). Ok p) (blank_only (ap is_over (sym same) ∙ c) d)

pub no_head_only : {n : ℕ} {line : List ℕ} {o : Option (List ℕ × Tree)} (e : ReadError) (front : List ℕ) → front ≡ after_spaces line → is_over front ≡ false → Fails e (head_at front) → IsLine n line o → Fails {Y = Option (List ℕ × Tree)} e (Ok o)
no_head_only errors.Memory front same goes h d = tt
no_head_only (errors.Stopped s) front same goes h (blank c) = absurd (true≢false (sym c ∙ ap is_over (sym same) ∙ goes))
no_head_only {line = line} (errors.Stopped s) front same goes h (rule {name = name} {text = text} k d) =
    let both : ◌≡◌ {A = Result (List ℕ × List ℕ) Stop} (Err s) (Ok (name, text)) = sym h ∙ ap head_at same ∙ head_again line name text k in
    absurd cc

pub no_head_never : {n : ℕ} {line : List ℕ} {o : Option (List ℕ × Tree)} (e : ReadError) (front : List ℕ) → front ≡ after_spaces line → is_over front ≡ false → Fails e (head_at front) → IsSyntax e → IsLine n line o → ⊥
no_head_never errors.Memory front same goes h x d = absurd x
no_head_never (errors.Stopped s) front same goes h x d = let bad = no_head_only (errors.Stopped s) front same goes h d in cc

pub head_fault : (e : ReadError) (line front : List ℕ) → front ≡ after_spaces line → is_over front ≡ false → Fails e (head_at front) → IsStop (IsLineFault line) e
head_fault errors.Memory line front same goes h = tt
head_fault (errors.Stopped s) line front same goes h = no_head (ap is_over (sym same) ∙ goes) (ap head_at (sym same) ∙ h)

-- the head that was read
heads : (line front name text : List ℕ) → front ≡ after_spaces line → head_at front ≡ Ok (name, text) → Heads line name text
heads line front name text same h = head_is line name text (ap head_at (sym same) ∙ h)

module _ (line front name text : List ℕ) (same : front ≡ after_spaces line) (h : head_at front ≡ Ok (name, text)) where
  pub no_rule_only : (e : ReadError) {n : ℕ} {o : Option (List ℕ × Tree)} → ((t : Tree) → Says n text t → Fails {Y = Tree} e (Ok t)) → IsLine n line o → Fails {Y = Option (List ℕ × Tree)} e (Ok o)
  no_rule_only errors.Memory k d = tt
  no_rule_only (errors.Stopped s) k d =
      let p = headed (heads line front name text same h) d in
      let bad : ◌≡◌ {A = Result Tree Stop} (Ok p.0) (Err s) = k p.0 p.2 in
      absurd cc

  pub no_rule_never : (e : ReadError) {o : Option (List ℕ × Tree)} → (IsSyntax e → (m : ℕ) (t : Tree) → Says m text t → ⊥) → IsSyntax e → (n : ℕ) → IsLine n line o → ⊥
  no_rule_never e k x n d = let p = headed (heads line front name text same h) d in k x n p.0 p.2

  pub rule_fault : (e : ReadError) → IsStop (IsFault text) e → IsStop (IsLineFault line) e
  rule_fault errors.Memory k = tt
  rule_fault (errors.Stopped s) k = no_rule name text (heads line front name text same h) k

  pub rule_found : (n : ℕ) (e : Tree) → Says n text e → IsLine n line (Some (name, e))
  rule_found n e s = rule (heads line front name text same h) s

  pub rule_only : {n : ℕ} {o : Option (List ℕ × Tree)} (e : Tree) → ((t : Tree) → Says n text t → ◌≡◌ {A = Result Tree Stop} (Ok t) (Ok e)) → IsLine n line o → ◌≡◌ {A = Result (Option (List ℕ × Tree)) Stop} (Ok o) (Ok (Some (name, e)))
  rule_only e k d =
      let p = headed (heads line front name text same h) d in
      let tree : p.0 ≡ e = ok_is p.0 e (k p.0 p.2) in
      ap (λ (x : Option (List ℕ × Tree)). Ok x) (p.1 ∙ ap (λ (t : Tree). Some (name, t)) tree)

pub blank_found : (n : ℕ) (line front : List ℕ) → front ≡ after_spaces line → is_over front ≡ true → IsLine n line None
blank_found n line front same c = blank (ap is_over (sym same) ∙ c)
