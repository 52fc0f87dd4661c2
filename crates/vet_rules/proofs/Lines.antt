-- Lines of rules.
use Rattle.std.proofs.Common.{◌≡◌, ℕ, zero, suc, ◌+◌, ◌<◌, Bool, true, false, cond, List, [], ◌∷◌, ◌++◌, map, length, take, drop, Option, Some, None, Result, Ok, Err, refl, sym, ap, subst, ◌∙◌, arith, one-add}
use Rattle.std.specs.Prelude.{◌&&◌, ◌==◌}
use Rattle.std.specs.List.{prefix_len, list_all}
use Rattle.std.proofs.lemmas.Bool.{eqb-true}
use Rattle.std.proofs.lemmas.Bool.Decides.{nat_tests}
use Rattle.std.proofs.lemmas.List.{take_at, drop_at, take-append-drop}
use Rattle.vet_rules.specs.declared.lexer.Class.TheVariants.{Name}
use Rattle.vet_rules.specs.declared.error.Expected.TheVariants as expected
use Rattle.vet_rules.specs.declared.stop.Stop.{Stop}
use Rattle.vet_rules.specs.declared.stop.ReadError.{ReadError}
use Rattle.vet_rules.specs.declared.stop.ReadError.TheVariants as errors
use Rattle.vet_rules.specs.Literals.{Text}
use Rattle.vet_rules.specs.Signs as signs
use Rattle.vet_rules.specs.Signs.{Sign}
use Rattle.vet_rules.specs.Trees.{Tree}
use Rattle.vet_rules.specs.Grammar.{IsSpelled}
use Rattle.vet_rules.specs.Answers.{◌>>=◌, Fails, stops}
use Rattle.vet_rules.specs.Lexemes.{continues, cut, is_over, is_quoted, is_shown, is_title, IsWritten}
use Rattle.vet_rules.specs.Scanning.{token_at}
use Rattle.vet_rules.specs.Rules.{Says, after_spaces, Heads, bare, quoted, IsLine, blank, rule, AreRules, no_more, skipped, taken}
use Rattle.vet_rules.specs.Heading.{after_colon, named, bare_head, title_or, quoted_head, head_at}
use Rattle.vet_rules.proofs.Loop.{ok_is}
use Rattle.vet_rules.proofs.Steps.{bind_ok}
use Rattle.vet_rules.proofs.Lexed.{some_is, token_again, token_found}
use Rattle.vet_rules.proofs.Grow.{one_tree}
use Rattle.vet_rules.proofs.LexLoop.{one_lexing}

-- ---- runs

both_hold : (a b : Bool) → (a && b) ≡ true → (a ≡ true) × (b ≡ true)
both_hold true b h = (refl, h)
both_hold false b h = absurd cc

pub run_is : (p : ℕ → Bool) (word rest : List ℕ) → list_all p word ≡ true → prefix_len p rest ≡ 0 → prefix_len p (word ++ rest) ≡ length word
run_is p [] rest h e = e
run_is p (b ∷ word) rest h e = let q = both_hold (p b) (list_all p word) h in rw (q.0, run_is p word rest q.1 e) (omega arith)

passes_more : (p : ℕ → Bool) (b : ℕ) (text : List ℕ) (t : Bool) → p b ≡ t → list_all p (take (prefix_len p text) text) ≡ true → list_all p (take (cond t (1 + prefix_len p text) 0) (b ∷ text)) ≡ true
passes_more p b text true e h = rw one-add (rw (e, h) refl)
passes_more p b text false e h = refl

run_passes : (p : ℕ → Bool) (text : List ℕ) → list_all p (take (prefix_len p text) text) ≡ true
run_passes p [] = refl
run_passes p (b ∷ text) = passes_more p b text (p b) refl (run_passes p text)

-- ---- the head of a line

no_colon_in_name : (text : List ℕ) → prefix_len (continues Name) (58 ∷ text) ≡ 0
no_colon_in_name text = refl

heads_again : (name text : List ℕ) → 0 < length name → list_all (continues Name) name ≡ true → is_shown name ≡ true → bare_head (name ++ 58 ∷ text) ≡ Ok (name, text)
unfolding bare_head
heads_again [] text lt h u = absurd (omega arith)
heads_again (b ∷ name) text lt h u =
    let n : prefix_len (continues Name) ((b ∷ name) ++ 58 ∷ text) ≡ suc (length name) = run_is (continues Name) (b ∷ name) (58 ∷ text) h (no_colon_in_name text) in
    let t : take (suc (length name)) ((b ∷ name) ++ 58 ∷ text) ≡ b ∷ name = take_at (b ∷ name) (58 ∷ text) (suc (length name)) refl in
    let d : drop (suc (length name)) ((b ∷ name) ++ 58 ∷ text) ≡ 58 ∷ text = drop_at (b ∷ name) (58 ∷ text) (suc (length name)) refl in
    ap (λ (k : ℕ). named k ((b ∷ name) ++ 58 ∷ text)) n ∙ rw (t, d, u) refl

name_is_no_quote : (b : ℕ) → continues Name b ≡ true → (b == 34) ≡ false
name_is_no_quote b h = grind (arith, nat_tests)

not_quoted : (name text : List ℕ) → 0 < length name → list_all (continues Name) name ≡ true → is_quoted (name ++ 58 ∷ text) ≡ false
not_quoted [] text lt h = absurd (omega arith)
not_quoted (b ∷ name) text lt h = name_is_no_quote b (both_hold (continues Name b) (list_all (continues Name) name) h).0

bare_first : (line : List ℕ) → is_quoted line ≡ false → head_at line ≡ bare_head line
unfolding head_at
bare_first line q = rw q refl

quoted_first : (line : List ℕ) → is_quoted line ≡ true → head_at line ≡ quoted_head line
unfolding head_at
quoted_first line q = rw q refl

quoted_again : (line word name text : List ℕ) → cut line ≡ Some (word, 58 ∷ text) → IsWritten (signs.Literal (Text name)) word → is_title name ≡ true → quoted_head line ≡ Ok (name, text)
unfolding quoted_head
quoted_again line word name text c w t = rw (token_again line (signs.Literal (Text name)) word (58 ∷ text) c w, t) refl

pub head_again : (line name text : List ℕ) → Heads line name text → head_at (after_spaces line) ≡ Ok (name, text)
head_again line name text (bare lt h u e) = bare_first (after_spaces line) (ap is_quoted e ∙ not_quoted name text lt h) ∙ ap bare_head e ∙ heads_again name text lt h u
head_again line name text (quoted {word = word} q c w t) = quoted_first (after_spaces line) q ∙ quoted_again (after_spaces line) word name text c w t

colon_is : (rest text : List ℕ) → after_colon rest ≡ Ok text → rest ≡ 58 ∷ text
colon_is [] text h = absurd cc
colon_is (b ∷ rest) text h = by_condition (b == 58) refl h
  where
    by_condition : (t : Bool) → (b == 58) ≡ t → cond t (Ok rest) (stops expected.Colon (length (b ∷ rest))) ≡ Ok text → b ∷ rest ≡ 58 ∷ text
    by_condition true e h = ap (λ (c : ℕ). c ∷ rest) (eqb-true b 58 e) ∙ ap (λ (us : List ℕ). 58 ∷ us) (ok_is rest text h)
    by_condition false e h = absurd cc

name_ok : (r : Result (List ℕ) Stop) (name : List ℕ) (x : List ℕ × List ℕ) → (r >>= λ text. Ok (name, text)) ≡ Ok x → (name ≡ x.0) × (r ≡ Ok x.1)
name_ok (Ok text) name x h =
    let same = ok_is (name, text) x h in
    (ap (λ (y : List ℕ × List ℕ). y.0) same, ap (λ (y : List ℕ × List ℕ). Ok y.1) same)
name_ok (Err s) name x h = absurd cc

shown_then : (u : Bool) (left : ℕ) (r : Result (List ℕ × List ℕ) Stop) (x : List ℕ × List ℕ) → cond u r (stops expected.Utf8 left) ≡ Ok x → (u ≡ true) × (r ≡ Ok x)
shown_then true left r x h = (refl, h)
shown_then false left r x h = absurd cc

named_is : (line : List ℕ) (k : ℕ) (x : List ℕ × List ℕ) → k ≡ prefix_len (continues Name) line → named k line ≡ Ok x
    → (0 < length x.0) × (list_all (continues Name) x.0 ≡ true) × (is_shown x.0 ≡ true) × (line ≡ x.0 ++ 58 ∷ x.1)
named_is line zero x e h = absurd cc
named_is [] (suc k) x e h = absurd (omega (arith, e))
named_is (b ∷ line) (suc k) x e h =
    let u = shown_then (is_shown (take (suc k) (b ∷ line))) (length (b ∷ line)) (after_colon (drop (suc k) (b ∷ line)) >>= λ text. Ok (take (suc k) (b ∷ line), text)) x h in
    let c = name_ok (after_colon (drop (suc k) (b ∷ line))) (take (suc k) (b ∷ line)) x u.1 in
    let passes = subst (λ (n : ℕ). list_all (continues Name) (take n (b ∷ line)) ≡ true) (sym e) (run_passes (continues Name) (b ∷ line)) in
    let some : 0 < length (b ∷ take k line) = omega arith in (
      subst (λ (w : List ℕ). 0 < length w) c.0 some,
      subst (λ (w : List ℕ). list_all (continues Name) w ≡ true) c.0 passes,
      subst (λ (w : List ℕ). is_shown w ≡ true) c.0 u.0,
      sym (take-append-drop (suc k) (b ∷ line)) ∙ ap (λ (w : List ℕ). w ++ drop (suc k) (b ∷ line)) c.0 ∙ ap (λ (w : List ℕ). x.0 ++ w) (colon_is (drop (suc k) (b ∷ line)) x.1 c.1),
    )

bare_is : (line : List ℕ) (x : List ℕ × List ℕ) → bare_head (after_spaces line) ≡ Ok x → Heads line x.0 x.1
unfolding bare_head
bare_is line x h = let n = named_is (after_spaces line) (prefix_len (continues Name) (after_spaces line)) x refl h in bare n.0 n.1 n.2 n.3

title_is : (left : ℕ) (t : Sign) (name : List ℕ) → title_or left t ≡ Ok name → (t ≡ signs.Literal (Text name)) × (is_title name ≡ true)
title_is left (signs.Literal (Text text)) name h = by_condition (is_title text) refl h
  where
    by_condition : (b : Bool) → is_title text ≡ b → cond b (Ok text) (stops expected.Name left) ≡ Ok name → (signs.Literal (Text text) ≡ signs.Literal (Text name)) × (is_title name ≡ true)
    by_condition true e h = let same = ok_is text name h in (ap (λ (w : List ℕ). signs.Literal (Text w)) same, subst (λ (w : List ℕ). is_title w ≡ true) same e)
    by_condition false e h = absurd cc
title_is left t name h = absurd cc

quoted_is : (line : List ℕ) (x : List ℕ × List ℕ) → is_quoted (after_spaces line) ≡ true → quoted_head (after_spaces line) ≡ Ok x → Heads line x.0 x.1
unfolding quoted_head
quoted_is line x q h =
    let front = after_spaces line in
    let a = bind_ok (token_at front) (λ t. title_or (length front) t.0 >>= λ name. after_colon t.1 >>= λ text. Ok (name, text)) x h in
    let b = bind_ok (title_or (length front) a.0.0) (λ name. after_colon a.0.1 >>= λ text. Ok (name, text)) x a.2 in
    let c = name_ok (after_colon a.0.1) b.0 x b.2 in
    let n = title_is (length front) a.0.0 b.0 b.1 in
    let f = token_found front a.0.0 a.0.1 a.1 in
    let cut_here : cut front ≡ Some (f.0, 58 ∷ x.1) = f.1 ∙ ap (λ (us : List ℕ). Some (f.0, us)) (colon_is a.0.1 x.1 c.1) in
    let name_here : IsWritten (signs.Literal (Text x.0)) f.0 = subst (λ (w : List ℕ). IsWritten (signs.Literal (Text w)) f.0) c.0 (subst (λ (t : Sign). IsWritten t f.0) n.0 f.2) in
    quoted q cut_here name_here (subst (λ (w : List ℕ). is_title w ≡ true) c.0 n.1)

head_by : (line : List ℕ) (x : List ℕ × List ℕ) (b : Bool) → is_quoted (after_spaces line) ≡ b → cond b (quoted_head (after_spaces line)) (bare_head (after_spaces line)) ≡ Ok x → Heads line x.0 x.1
head_by line x true q h = quoted_is line x q h
head_by line x false q h = bare_is line x h

pub head_is : (line name text : List ℕ) → head_at (after_spaces line) ≡ Ok (name, text) → Heads line name text
unfolding head_at
head_is line name text h = head_by line (name, text) (is_quoted (after_spaces line)) refl h

by_name : (line name : List ℕ) (k : ℕ) → (k ≡ 0 → ⊥) → k ≡ prefix_len (continues Name) line → name ≡ take k line
    → bare_head line ≡ cond (is_shown name) (after_colon (drop k line) >>= λ text. Ok (name, text)) (stops expected.Utf8 (length line))
unfolding bare_head
by_name line name zero some e n = absurd (some refl)
by_name line name (suc k) some e n = ap (λ (m : ℕ). named m line) (sym e) ∙ rw n refl

pub head_no_text : (line name : List ℕ) (k : ℕ) → (k ≡ 0 → ⊥) → k ≡ prefix_len (continues Name) line → name ≡ take k line → is_shown name ≡ false → bare_head line ≡ stops expected.Utf8 (length line)
head_no_text line name k some e n u = by_name line name k some e n ∙ rw u refl

pub head_named : (line name : List ℕ) (k : ℕ) → (k ≡ 0 → ⊥) → k ≡ prefix_len (continues Name) line → name ≡ take k line → is_shown name ≡ true → bare_head line ≡ (after_colon (drop k line) >>= λ text. Ok (name, text))
head_named line name k some e n u = by_name line name k some e n ∙ rw u refl

abbrev with_name : List ℕ → List ℕ → Result (List ℕ × List ℕ) Stop
with_name name text = Ok (name, text)

pub colon_found : (r : Result (List ℕ) Stop) (name text : List ℕ) → r ≡ Ok text → (r >>= with_name name) ≡ with_name name text
colon_found r name text e = rw e refl

pub colon_missing : (e : ReadError) (r : Result (List ℕ) Stop) (name : List ℕ) → Fails e r → Fails {Y = List ℕ × List ℕ} e (r >>= with_name name)
colon_missing errors.Memory r name h = tt
colon_missing (errors.Stopped s) r name h = rw h refl

name_is_not_over : (b : ℕ) → continues Name b ≡ true → (b == 35) ≡ true → ⊥
name_is_not_over b h k = grind (arith, nat_tests)

not_over : (line name text : List ℕ) → 0 < length name → list_all (continues Name) name ≡ true → line ≡ name ++ 58 ∷ text → is_over line ≡ true → ⊥
not_over line [] text lt h e o = omega arith
not_over line (b ∷ name) text lt h e o =
    name_is_not_over b (both_hold (continues Name b) (list_all (continues Name) name) h).0 (subst (λ (l : List ℕ). is_over l ≡ true) e o)

quote_is_not_over : (text : List ℕ) → is_quoted text ≡ true → is_over text ≡ true → ⊥
quote_is_not_over [] q o = cc
quote_is_not_over (b ∷ text) q o = grind (arith, nat_tests)

pub heads_not_blank : (line name text : List ℕ) → Heads line name text → is_over (after_spaces line) ≡ true → ⊥
heads_not_blank line name text (bare lt h u e) o = not_over (after_spaces line) name text lt h e o
heads_not_blank line name text (quoted {word = word} q c w t) o = quote_is_not_over (after_spaces line) q o

-- ---- one meaning

pub one_saying : (n m : ℕ) (text : List ℕ) (e f : Tree) → Says n text e → Says m text f → e ≡ f
one_saying n m text e f (ts, c, s) (us, d, t) =
    one_tree n m (map (λ x. x.0) ts) e f s (subst (λ (vs : List (Sign × ℕ)). IsSpelled m (map (λ x. x.0) vs) f) (one_lexing d c) t)

pub one_line : (n m : ℕ) (line : List ℕ) (o p : Option (List ℕ × Tree)) → IsLine n line o → IsLine m line p → o ≡ p
one_line n m line o p (blank c) (blank d) = refl
one_line n m line o p (blank c) (rule {name = name} {text = text} h s) = absurd (heads_not_blank line name text h c)
one_line n m line o p (rule {name = name} {text = text} h s) (blank d) = absurd (heads_not_blank line name text h d)
one_line n m line o p (rule {name = name} {text = text} {e = e} h s) (rule {name = other} {text = rest} {e = f} k t) =
    let same : (name, text) ≡ (other, rest) = ok_is (name, text) (other, rest) (sym (head_again line name text h) ∙ head_again line other rest k) in
    let s' : Says n rest e = subst (λ (x : List ℕ × List ℕ). Says n x.1 e) same s in
    let tree : e ≡ f = one_saying n m rest e f s' t in
    ap (λ (x : List ℕ × List ℕ). Some (x.0, e)) same ∙ ap (λ (y : Tree). Some (other, y)) tree

some_none : {A : Type 0} (x : A) → ◌≡◌ {A = Option A} (Some x) None → ⊥
some_none x e = cc

pub one_text : {n m : ℕ} {lines : List (List ℕ)} {rs ss : List (List ℕ × Tree)} → AreRules n lines rs → AreRules m lines ss → rs ≡ ss
one_text no_more no_more = refl
one_text (skipped l d) (skipped k c) = one_text d c
one_text {n = n} {m = m} (skipped {line = line} l d) (taken {r = r} k c) = absurd (some_none r (sym (one_line n m line None (Some r) l k)))
one_text {n = n} {m = m} (taken {line = line} {r = r} l d) (skipped k c) = absurd (some_none r (one_line n m line (Some r) None l k))
one_text {n = n} {m = m} (taken {line = line} {r = r} {rs = rs} l d) (taken {r = q} {rs = ss} k c) =
    let one : r ≡ q = some_is r q (one_line n m line (Some r) (Some q) l k) in
    let tail : rs ≡ ss = one_text d c in
    ap (λ (x : List ℕ × Tree). x ∷ rs) one ∙ ap (λ (us : List (List ℕ × Tree)). q ∷ us) tail
