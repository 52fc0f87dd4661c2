-- What is quoted, one character or byte more at a time.
use Rattle.std.proofs.Common.{◌≡◌, ℕ, zero, suc, ◌+◌, ◌-◌, ◌<◌, ◌≤◌, IfOk, Option, Some, None, Result, Ok, Err, List, [], ◌∷◌, ◌++◌, codes, length, take, drop, map, get_or, refl, sym, ap, ◌∙◌, subst, arith, append_assoc, append-nil, drop-cons}
use Rattle.std.specs.declared.fmt.Formatter.{Formatter}
use Rattle.std.specs.declared.fmt.Error.{Error}
use Rattle.std.specs.Char.{encode_utf8}
use Rattle.std.specs.Str.{encode_utf8_all}
use Rattle.std.specs.Fmt.{DisplaysOnOk}
use Rattle.std.specs.Str.Lossy.{utf8_valid_len, utf8_invalid_len}
use Rattle.std.proofs.Output.{displays_on_IsOk_append, writes_in_calls_nil}
use Rattle.std.proofs.lemmas.List.{take_more, take_all, map-append, take-append-drop}
use Rattle.std.proofs.Math.Seq.{take-append_seam, drop-append_seam}
use Rattle.vet_rules.specs.Quoting.{chunk_texts, behind_text, texts_within, first_texts, left_behind, AreShown, quoted_text}

-- ---- texts behind one another

abbrev Texts : Type 0
Texts = List (List ℕ)

texts_on : (most left : ℕ) (us vs : Texts) → left_behind most us ≡ Some left → first_texts most (us ++ vs) ≡ first_texts most us ++ first_texts left vs
texts_on most left [] vs e =
    let same : most ≡ left = cc in
    ap (λ n. first_texts n vs) same
texts_on zero left (u ∷ us) vs e = cc
texts_on (suc most) left (u ∷ us) vs e = ap (λ o. u ++ o) (texts_on most left us vs e) ∙ sym (append_assoc u (first_texts most us) (first_texts left vs))

left_on : (most left : ℕ) (us vs : Texts) → left_behind most us ≡ Some left → left_behind most (us ++ vs) ≡ left_behind left vs
left_on most left [] vs e =
    let same : most ≡ left = cc in
    ap (λ n. left_behind n vs) same
left_on zero left (u ∷ us) vs e = cc
left_on (suc most) left (u ∷ us) vs e = left_on most left us vs e

texts_cut : (most : ℕ) (us vs : Texts) → left_behind most us ≡ None → first_texts most (us ++ vs) ≡ first_texts most us
texts_cut most [] vs e = cc
texts_cut zero (u ∷ us) vs e = refl
texts_cut (suc most) (u ∷ us) vs e = ap (λ o. u ++ o) (texts_cut most us vs e)

left_cut : (most : ℕ) (us vs : Texts) → left_behind most us ≡ None → left_behind most (us ++ vs) ≡ None
left_cut most [] vs e = cc
left_cut zero (u ∷ us) vs e = refl
left_cut (suc most) (u ∷ us) vs e = left_cut most us vs e

-- ---- what is written of them

module _ {W : Type 0} (took : W → List ℕ → W → Type 0) where
  abbrev pub Writes : Formatter W → List ℕ → Formatter W → Type 0
  Writes f text g = DisplaysOnOk took f (Ok tt) (Some text) g

  along : (f g : Formatter W) (o p : List ℕ) → o ≡ p → Writes f o g → Writes f p g
  along f g o p e x = subst (λ q. Writes f q g) e x

  pub nothing_written : (f : Formatter W) → Writes f [] f
  nothing_written f = λ plain ok. record { wrote = writes_in_calls_nil _ f.writer; plain = plain }

  both_written : (f g h : Formatter W) (o p : List ℕ) → Writes f o g → Writes g p h → Writes f (o ++ p) h
  both_written f g h o p x y = displays_on_IsOk_append took f g h (Ok tt) (Ok tt) (Some o) (Some p) (λ ok. refl) x y

  pub shown_on : (f g h : Formatter W) (most left : ℕ) (us vs : Texts) (r : Option ℕ) → AreShown took f most us (Some left) g → AreShown took g left vs r h → AreShown took f most (us ++ vs) r h
  shown_on f g h most left us vs r x y =
      record {
        left_is = y.left_is ∙ sym (left_on most left us vs (sym x.left_is));
        writes = along f h _ _ (sym (texts_on most left us vs (sym x.left_is))) (both_written f g h (first_texts most us) (first_texts left vs) x.writes y.writes);
      }

  pub shown_cut : (f g : Formatter W) (most : ℕ) (us vs : Texts) → AreShown took f most us None g → AreShown took f most (us ++ vs) None g
  shown_cut f g most us vs x =
      record {
        left_is = sym (left_cut most us vs (sym x.left_is));
        writes = along f g _ _ (sym (texts_cut most us vs (sym x.left_is))) x.writes;
      }

  pub shown_behind : (f g h : Formatter W) (most left : ℕ) (us vs : Texts) (r : Result (Option ℕ) Error) → AreShown took f most us (Some left) g → IfOk r (λ n. AreShown took g left vs n h) → IfOk r (λ n. AreShown took f most (us ++ vs) n h)
  shown_behind f g h most left us vs (Ok n) x y = shown_on f g h most left us vs n x y
  shown_behind f g h most left us vs (Err e) x y = tt

  one_shown : (g h : Formatter W) (left : ℕ) (u : List ℕ) → 0 < left → Writes g u h → AreShown took g left (u ∷ []) (Some (left - 1)) h
  one_shown g h zero u some x = absurd (omega arith)
  one_shown g h (suc left) u some x =
      record {
        left_is = ap Some (let e : suc left - 1 ≡ left = omega arith in e);
        writes = along g h _ _ (sym (append-nil u)) x;
      }

module _ {W : Type 0} (took : W → List ℕ → W → Type 0) {U : Type 0} (text : U → List ℕ) (all : List U) (most : ℕ) where
  pub none_shown : (f : Formatter W) → AreShown took f most (map text (take 0 all)) (Some most) f
  none_shown f = record { left_is = refl; writes = nothing_written took f }

  pub more_shown : (f g h : Formatter W) (k left : ℕ) (u d : U) → k < length all → u ≡ get_or all k d → 0 < left → AreShown took f most (map text (take k all)) (Some left) g → Writes took g (text u) h
      → AreShown took f most (map text (take (k + 1) all)) (Some (left - 1)) h
  more_shown f g h k left u d within is some x y =
      let e : take (k + 1) all ≡ take k all ++ u ∷ [] = take_more all k d within ∙ ap (λ z. take k all ++ z ∷ []) (sym is) in
      let m : map text (take (k + 1) all) ≡ map text (take k all) ++ text u ∷ [] = ap (map text) e ∙ map-append text (take k all) (u ∷ []) in
      subst (λ us. AreShown took f most us (Some (left - 1)) h) (sym m) (shown_on took f g h most left (map text (take k all)) (text u ∷ []) (Some (left - 1)) x (one_shown took g h left (text u) some y))

  pub rest_cut : (f g h : Formatter W) (k : ℕ) (u : U) → k < length all → AreShown took f most (map text (take k all)) (Some 0) g → Writes took g (codes "...") h
      → AreShown took f most (map text all) None h
  rest_cut f g h k u within x y =
      let e : take k all ++ (get_or all k u ∷ drop (suc k) all) ≡ all = ap (λ z. take k all ++ z) (sym (drop-cons all k u within)) ∙ take-append-drop k all in
      let m : map text (take k all) ++ (text (get_or all k u) ∷ map text (drop (suc k) all)) ≡ map text all = sym (map-append text (take k all) (get_or all k u ∷ drop (suc k) all)) ∙ ap (map text) e in
      subst (λ us. AreShown took f most us None h) m
      (shown_on took f g h most 0 (map text (take k all)) (text (get_or all k u) ∷ map text (drop (suc k) all)) None x (record { left_is = refl; writes = y }))

  pub all_shown : (f g : Formatter W) (k left : ℕ) → length all ≤ k → AreShown took f most (map text (take k all)) (Some left) g → AreShown took f most (map text all) (Some left) g
  all_shown f g k left whole x = subst (λ us. AreShown took f most (map text us) (Some left) g) (take_all k all whole) x

-- ---- a character by its escape

encoded_last : (cs : List ℕ) (c : ℕ) → encode_utf8_all (cs ++ c ∷ []) ≡ encode_utf8_all cs ++ encode_utf8 c
encoded_last [] c = append-nil (encode_utf8 c)
encoded_last (d ∷ cs) c = ap (λ w. encode_utf8 d ++ w) (encoded_last cs c) ∙ sym (append_assoc (encode_utf8 d) (encode_utf8_all cs) (encode_utf8 c))

pub one_part : {W : Type 0} (took : W → List ℕ → W → Type 0) (f g h : Formatter W) (cs : List ℕ) (c : ℕ) → Writes took f (encode_utf8_all cs) g → Writes took g (encode_utf8 c) h → Writes took f (encode_utf8_all (cs ++ c ∷ [])) h
one_part took f g h cs c x y =
    along took f h (encode_utf8_all cs ++ encode_utf8 c) (encode_utf8_all (cs ++ c ∷ [])) (sym (encoded_last cs c))
    (both_written took f g h (encode_utf8_all cs) (encode_utf8 c) x y)

-- ---- one chunk more

-- the text and the other bytes of the first chunk, and what is after it
pub record IsChunk (rest text others after : List ℕ) : Type 0 where
  pub whole : rest ≡ text ++ (others ++ after)
  pub shorter : length after < length rest
  pub text_len : length text ≡ utf8_valid_len rest
  pub others_len : length others ≡ utf8_invalid_len (drop (utf8_valid_len rest) rest)

within_on : (k : ℕ) (rest text others after : List ℕ) → length rest ≤ suc k → IsChunk rest text others after → (length after ≤ k) × (texts_within (suc k) rest ≡ chunk_texts text others ++ texts_within k after)
within_on k [] text others after small h = absurd (omega (arith, h.shorter))
within_on k (b ∷ bytes) text others after small h =
    let rest = b ∷ bytes in
    let front : take (utf8_valid_len rest) rest ≡ text = ap (λ n. take n rest) (sym h.text_len) ∙ ap (take (length text)) h.whole ∙ take-append_seam text (others ++ after) in
    let behind : behind_text rest ≡ others ++ after = ap (λ n. drop n rest) (sym h.text_len) ∙ ap (drop (length text)) h.whole ∙ drop-append_seam text (others ++ after) in
    let odd : take (utf8_invalid_len (behind_text rest)) (behind_text rest) ≡ others = ap (λ n. take n (behind_text rest)) (sym h.others_len) ∙ ap (take (length others)) behind ∙ take-append_seam others after in
    let last : drop (utf8_invalid_len (behind_text rest)) (behind_text rest) ≡ after = ap (λ n. drop n (behind_text rest)) (sym h.others_len) ∙ ap (drop (length others)) behind ∙ drop-append_seam others after in
    (omega (arith, h.shorter), λ i. chunk_texts (front i) (odd i) ++ texts_within k (last i))

within_none : (k : ℕ) (rest : List ℕ) → length rest ≡ 0 → texts_within k rest ≡ []
within_none zero rest none = refl
within_none (suc k) [] none = refl
within_none (suc k) (b ∷ bytes) none = absurd (omega arith)

-- this rest of the bytes is left, of which so much may be written
pub record IsQuoted {W : Type 0} (took : W → List ℕ → W → Type 0) (f : Formatter W) (bytes rest : List ℕ) (left : ℕ) (g : Formatter W) : Type 0 where
  pub fuel : ℕ
  pub before : List ℕ
  pub enough : length rest ≤ fuel
  pub writes : Writes took f before g
  pub whole : quoted_text bytes ≡ before ++ first_texts left (texts_within fuel rest)

module _ {W : Type 0} (took : W → List ℕ → W → Type 0) (f : Formatter W) (bytes : List ℕ) where
  pub none_quoted : IsQuoted took f bytes bytes 32 f
  none_quoted =
      record {
        fuel = length bytes;
        before = [];
        enough = omega arith;
        writes = nothing_written took f;
        whole = refl;
      }

  quoted_by : (fuel : ℕ) (before : List ℕ) (g h : Formatter W) (rest text others after : List ℕ) (left more : ℕ) → length rest ≤ fuel → Writes took f before g → quoted_text bytes ≡ before ++ first_texts left (texts_within fuel rest)
      → IsChunk rest text others after → AreShown took g left (chunk_texts text others) (Some more) h → IsQuoted took f bytes after more h
  quoted_by zero before g h rest text others after left more enough x whole chunk y = absurd (omega (arith, chunk.shorter))
  quoted_by (suc k) before g h rest text others after left more enough x whole chunk y =
      let e = within_on k rest text others after enough chunk in
      record {
        fuel = k;
        before = before ++ first_texts left (chunk_texts text others);
        enough = e.0;
        writes = both_written took f g h before (first_texts left (chunk_texts text others)) x y.writes;
        whole =
            whole ∙ ap (λ us. before ++ first_texts left us) e.1
            ∙ ap (λ o. before ++ o) (texts_on left more (chunk_texts text others) (texts_within k after) (sym y.left_is))
            ∙ sym (append_assoc before (first_texts left (chunk_texts text others)) (first_texts more (texts_within k after)));
      }

  pub one_quoted : (g h : Formatter W) (rest text others after : List ℕ) (left more : ℕ) → IsChunk rest text others after → IsQuoted took f bytes rest left g → AreShown took g left (chunk_texts text others) (Some more) h → IsQuoted took f bytes after more h
  one_quoted g h rest text others after left more chunk x y = quoted_by x.fuel x.before g h rest text others after left more x.enough x.writes x.whole chunk y

  cut_by : (fuel : ℕ) (before : List ℕ) (g h : Formatter W) (rest text others after : List ℕ) (left : ℕ) → length rest ≤ fuel → Writes took f before g → quoted_text bytes ≡ before ++ first_texts left (texts_within fuel rest)
      → IsChunk rest text others after → AreShown took g left (chunk_texts text others) None h → Writes took f (quoted_text bytes) h
  cut_by zero before g h rest text others after left enough x whole chunk y = absurd (omega (arith, chunk.shorter))
  cut_by (suc k) before g h rest text others after left enough x whole chunk y =
      let e = within_on k rest text others after enough chunk in
      let is : quoted_text bytes ≡ before ++ first_texts left (chunk_texts text others) =
      whole ∙ ap (λ us. before ++ first_texts left us) e.1 ∙ ap (λ o. before ++ o) (texts_cut left (chunk_texts text others) (texts_within k after) (sym y.left_is)) in
      along took f h (before ++ first_texts left (chunk_texts text others)) (quoted_text bytes) (sym is)
      (both_written took f g h before (first_texts left (chunk_texts text others)) x y.writes)

  pub cut_quoted : (g h : Formatter W) (rest text others after : List ℕ) (left : ℕ) → IsChunk rest text others after → IsQuoted took f bytes rest left g → AreShown took g left (chunk_texts text others) None h → Writes took f (quoted_text bytes) h
  cut_quoted g h rest text others after left chunk x y = cut_by x.fuel x.before g h rest text others after left x.enough x.writes x.whole chunk y

  pub all_quoted : (g : Formatter W) (rest : List ℕ) (left : ℕ) → length rest ≡ 0 → IsQuoted took f bytes rest left g → Writes took f (quoted_text bytes) g
  all_quoted g rest left none x =
      let is : quoted_text bytes ≡ x.before = x.whole ∙ ap (λ us. x.before ++ first_texts left us) (within_none x.fuel rest none) ∙ append-nil x.before in
      along took f g x.before (quoted_text bytes) (sym is) x.writes
