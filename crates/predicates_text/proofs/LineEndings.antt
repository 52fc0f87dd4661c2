-- Even line endings, by what stands before the first carriage return and after it.
use Rattle.std.proofs.Common.{◌≡◌, ◌≢◌, List, [], ◌∷◌, ◌++◌, ℕ, ◌+◌, ◌<◌, ◌≤◌, Bool, false, cond, ◌&&◌, eqb, length, length-drop, take, drop, sym, ◌∙◌, ap, refl, subst, arith, append_assoc, Option, Some, None, MatchOption, Bor, get_or, lit<, ⊎_elim}
use Rattle.std.specs.Prelude.{All}
use Rattle.std.specs.List.{AllByRecursion}
use Rattle.std.specs.Option.{unwrap_or}
use Rattle.std.specs.Char.{encode_utf8}
use Rattle.std.specs.Str.{chars, IsUtf8, encode_utf8_all, NonePass, NoCharPasses}
use Rattle.std.specs.Str.Pattern.{FindsChar, FindsCharPrefix, SplitsAroundMatch, StripsPrefix}
use Rattle.std.proofs.lemmas.Bool.{cases_Bool, ne_eqb, false≢true}
use Rattle.std.proofs.lemmas.List.{take-append-drop}
use Rattle.std.proofs.lemmas.List.Elements.{All-from_recursion}
use Rattle.std.proofs.lemmas.Str.{encodes_same, encodes-chars, chars-append, IsUtf8-append, IsUtf8-take, IsUtf8-drop, IsUtf8-past_char, IsCharBoundary-before_ascii, chars_past_char}
use Rattle.predicates_text.specs.Views.{lines_even}
use Rattle.predicates_text.specs.EvenLines.{even_after}
use Rattle.predicates_text.proofs.Slices.{chars_cut}

-- past any other character than a carriage return, a text begins anew
anew : (last : ℕ) (cs : List ℕ) → eqb last 13 ≡ false → even_after last cs ≡ even_after 0 cs
anew last [] e = refl
anew last (c ∷ cs) e = rw e refl

-- a line feed after a carriage return is left out
paired : (cs : List ℕ) → even_after 13 (10 ∷ cs) ≡ lines_even cs
paired cs = anew 10 cs refl

-- another character after a carriage return begins a line
unpaired : (c : ℕ) (cs : List ℕ) → eqb c 10 ≡ false → even_after 13 (c ∷ cs) ≡ lines_even (c ∷ cs)
unpaired c cs e = rw e refl

-- a line without carriage return stays
line_stays : (last : ℕ) (line cs : List ℕ) → eqb last 13 ≡ false → NonePass (λ c. eqb c 13) line → even_after last (line ++ (13 ∷ cs)) ≡ line ++ (10 ∷ even_after 13 cs)
line_stays last [] cs e none = rw e refl
line_stays last (c ∷ line) cs e none = rw (e, none.0) (ap (λ l. c ∷ l) (line_stays c line cs none.0 none.1))

-- the last line, with no carriage return
last_stays : (last : ℕ) (line : List ℕ) → eqb last 13 ≡ false → NonePass (λ c. eqb c 13) line → even_after last line ≡ line
last_stays last [] e none = refl
last_stays last (c ∷ line) e none = rw (e, none.0) (ap (λ l. c ∷ l) (last_stays c line none.0 none.1))

-- ---- texts as bytes

-- the characters of bytes that no character passes
none_passes : (p : ℕ → Bool) (t : List ℕ) → IsUtf8 t → NoCharPasses p t → NonePass p (chars t)
none_passes p t u w = let same : w.0 ≡ chars t = encodes_same w.0 (chars t) (w.1 ∙ sym (encodes-chars t u)) in subst (NonePass p) same w.2

-- a text cut at its first carriage return
record IsCutAtReturn (t line after : List ℕ) : Type 0 where
  line_text : IsUtf8 line
  after_text : IsUtf8 after
  shorter : length after < length t
  cut : chars t ≡ chars line ++ (13 ∷ chars after)
  plain : NonePass (λ c. eqb c 13) (chars line)

cut_at_return : (t line after : List ℕ) → IsUtf8 t → SplitsAroundMatch (FindsChar 13) t line after → IsCutAtReturn t line after
cut_at_return t line after u h =
    let i : ℕ = h.0 in
    let j : ℕ = h.1 in
    let ends : j ≡ i + 1 = h.2.1.ends in
    let within : i < length t = omega (arith, ends, h.7) in
    let byte : get_or t i 0 ≡ 13 = h.2.1.byte (lit< tt) in
    let until : IsUtf8 (take i t) = IsUtf8-take t i u (IsCharBoundary-before_ascii t i within (omega (arith, byte))) in
    let from : IsUtf8 (drop i t) = IsUtf8-drop t i u (IsCharBoundary-before_ascii t i within (omega (arith, byte))) in
    let past : IsUtf8 (drop j t) = IsUtf8-past_char (drop i t) (drop j t) 13 from h.2.1.split in
    let front : line ≡ take i t = h.3 in
    let back : after ≡ drop j t = h.4 in
    record {
      line_text = subst IsUtf8 (sym front) until;
      after_text = subst IsUtf8 (sym back) past;
      shorter = omega (arith, ends, h.7);
      cut =
          chars_cut t (take i t) (drop i t) until (sym (take-append-drop i t))
          ∙ ap (λ l. chars (take i t) ++ l) (chars_past_char (drop i t) (drop j t) 13 from h.2.1.split)
          ∙ ap (λ l. chars l ++ (13 ∷ chars (drop j t))) (sym front) ∙ ap (λ l. chars line ++ (13 ∷ chars l)) (sym back);
      plain = subst (λ l. NonePass (λ c. eqb c 13) (chars l)) (sym front) (none_passes (λ c. eqb c 13) (take i t) until h.2.0);
    }

-- what is left after a carriage return, and the line feed that may follow it
record IsLeftOf (after rest : List ℕ) : Type 0 where
  text : IsUtf8 rest
  no_longer : length rest ≤ length after
  evens : even_after 13 (chars after) ≡ lines_even (chars rest)

left_of : (a r : Bor (List ℕ)) (x : Option (Bor (List ℕ))) → IsUtf8 a.now → r ≡ unwrap_or x a
    → MatchOption x (FindsCharPrefix 10 a.now None) (λ y. StripsPrefix (FindsCharPrefix 10) a.now y.now) → IsLeftOf a.now r.now
left_of a r (Some y) u is h =
    let feed : a.now ≡ encode_utf8 10 ++ drop h.0 a.now = h.1.split in
    let rest : r.now ≡ drop h.0 a.now = ap (λ (b : Bor (List ℕ)). b.now) is ∙ h.2 in
    let text : IsUtf8 (drop h.0 a.now) = IsUtf8-past_char a.now (drop h.0 a.now) 10 u feed in
    record {
      text = subst IsUtf8 (sym rest) text;
      no_longer = omega (arith, ap length rest, length-drop h.0 a.now);
      evens = ap (even_after 13) (chars_past_char a.now (drop h.0 a.now) 10 u feed) ∙ paired (chars (drop h.0 a.now)) ∙ ap (λ l. lines_even (chars l)) (sym rest);
    }
left_of a r None u is h =
    let rest : r.now ≡ a.now = ap (λ (b : Bor (List ℕ)). b.now) is in
    record {
      text = subst IsUtf8 (sym rest) u;
      no_longer = omega (arith, ap length rest);
      evens = begins (chars a.now) (λ cs e. h (encode_utf8_all cs) (sym (encodes-chars a.now u) ∙ ap encode_utf8_all e)) ∙ ap (λ l. lines_even (chars l)) (sym rest);
    }
  where
    begins : (cs : List ℕ) → ((ds : List ℕ) → cs ≢ 10 ∷ ds) → even_after 13 cs ≡ lines_even cs
    begins [] other = refl
    begins (c ∷ cs) other = unpaired c cs (ne_eqb c 10 (λ e. other cs (ap (λ x. x ∷ cs) e)))

-- a turn of the loop
pub record IsLineTurn (done t written rest : List ℕ) : Type 0 where
  pub text : IsUtf8 rest
  pub shorter : length rest < length t
  pub keeps : chars written ++ lines_even (chars rest) ≡ chars done ++ lines_even (chars t)

feed_alone : chars (10 ∷ []) ≡ 10 ∷ []
unfolding chars
feed_alone = refl

pub line_turn : (done t line written : List ℕ) (a r : Bor (List ℕ)) (x : Option (Bor (List ℕ))) → IsUtf8 done → IsUtf8 t
    → SplitsAroundMatch (FindsChar 13) t line a.now → written ≡ (done ++ line) ++ (10 ∷ []) → r ≡ unwrap_or x a
    → MatchOption x (FindsCharPrefix 10 a.now None) (λ y. StripsPrefix (FindsCharPrefix 10) a.now y.now) → IsLineTurn done t written r.now
line_turn done t line written a r x ud ut split is taken strip =
    let cut : IsCutAtReturn t line a.now = cut_at_return t line a.now ut split in
    let left : IsLeftOf a.now r.now = left_of a r x cut.after_text taken strip in
    let wrote : chars written ≡ (chars done ++ chars line) ++ (10 ∷ []) =
    ap chars is ∙ chars-append (done ++ line) (10 ∷ []) (IsUtf8-append done line ud cut.line_text)
    ∙ ap (λ l. l ++ chars (10 ∷ [])) (chars-append done line ud) ∙ ap (λ l. (chars done ++ chars line) ++ l) feed_alone in
    let evened : lines_even (chars t) ≡ chars line ++ (10 ∷ lines_even (chars r.now)) =
    ap lines_even cut.cut ∙ line_stays 0 (chars line) (chars a.now) refl cut.plain ∙ ap (λ l. chars line ++ (10 ∷ l)) left.evens in
    record {
      text = left.text;
      shorter = omega (arith, left.no_longer, cut.shorter);
      keeps =
          ap (λ l. l ++ lines_even (chars r.now)) wrote
          ∙ append_assoc (chars done ++ chars line) (10 ∷ []) (lines_even (chars r.now))
          ∙ append_assoc (chars done) (chars line) (10 ∷ lines_even (chars r.now))
          ∙ ap (λ l. chars done ++ l) (sym evened);
    }

-- a text without a carriage return is the view of itself
pub even_without_return : (t : List ℕ) → IsUtf8 t → FindsChar 13 t None → chars t ≡ lines_even (chars t)
even_without_return t u none = sym (last_stays 0 (chars t) refl (none_passes (λ c. eqb c 13) t u none))

-- the last line
pub line_end : (done t written : List ℕ) → IsUtf8 done → IsUtf8 t → FindsChar 13 t None → written ≡ done ++ t → chars written ≡ chars done ++ lines_even (chars t)
line_end done t written ud ut none is =
    ap chars is ∙ chars-append done t ud ∙ ap (λ l. chars done ++ l) (even_without_return t ut none)

-- ---- laws of even line endings

even_plain : (last : ℕ) (cs : List ℕ) → NonePass (λ c. eqb c 13) (even_after last cs)
even_plain last [] = tt
even_plain last (c ∷ cs) = ⊎_elim
    (λ left_out. rw left_out (even_plain c cs))
    (λ stays. rw stays (turned c, even_plain c cs))
    (cases_Bool (eqb last 13 && eqb c 10))
  where
    turned : (c : ℕ) → eqb (cond (eqb c 13) 10 c) 13 ≡ false
    turned c = ⊎_elim (λ is. rw is refl) (λ other. rw other other) (cases_Bool (eqb c 13))

-- no carriage return is left
lines_even_plain : (t : List ℕ) → NonePass (λ c. eqb c 13) (lines_even t)
lines_even_plain t = even_plain 0 t

pub lines_even-lacks : (t : List ℕ) → All (λ c. c ≢ 13) (lines_even t)
lines_even-lacks t = All-from_recursion (λ c. c ≢ 13) (lines_even t) (each (lines_even t) (lines_even_plain t))
  where
    each : (cs : List ℕ) → NonePass (λ c. eqb c 13) cs → AllByRecursion (λ c. c ≢ 13) cs
    each [] none = tt
    each (c ∷ cs) none = (λ e. false≢true (sym none.0 ∙ ap (λ n. eqb n 13) e), each cs none.1)

-- done twice is once
pub lines_even_twice : (t : List ℕ) → lines_even (lines_even t) ≡ lines_even t
lines_even_twice t = last_stays 0 (lines_even t) refl (lines_even_plain t)
