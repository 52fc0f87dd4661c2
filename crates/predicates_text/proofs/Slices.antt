-- A text and its characters, cut at the same places.
use Rattle.std.proofs.Common.{◌≡◌, List, ◌++◌, ℕ, ◌≤◌, length, take, drop, sym, ◌∙◌, ap, subst}
use Rattle.std.specs.Str.{chars, IsUtf8, IsCharBoundary, encode_utf8_all}
use Rattle.std.specs.Str.Pattern.{HasTextAt, LacksTextAt}
use Rattle.std.proofs.Math.Seq.{drop-append_seam}
use Rattle.std.proofs.lemmas.List.{take-append-drop}
use Rattle.predicates_text.specs.Places.{StandsAt}
use Rattle.std.proofs.lemmas.Str.{encodes-chars, encodes-append, chars-append, IsUtf8-append, IsUtf8-drop, IsUtf8-take, IsCharBoundary-from_drop}

-- a cut between bytes that begin with a text is one between characters
pub chars_cut : (s front rest : List ℕ) → IsUtf8 front → s ≡ front ++ rest → chars s ≡ chars front ++ chars rest
chars_cut s front rest u e = ap chars e ∙ chars-append front rest u

-- a cut between characters is one between bytes
pub bytes_cut : (s front rest : List ℕ) → IsUtf8 s → chars s ≡ front ++ rest → s ≡ encode_utf8_all front ++ encode_utf8_all rest
bytes_cut s front rest u e = sym (encodes-chars s u) ∙ ap encode_utf8_all e ∙ encodes-append front rest

-- where the text p stands between characters of t, its bytes stand between bytes of t
pub bytes_around : (p t front rest : List ℕ) → IsUtf8 p → IsUtf8 t → chars t ≡ front ++ (chars p ++ rest) → t ≡ encode_utf8_all front ++ (p ++ encode_utf8_all rest)
bytes_around p t front rest up ut e =
    bytes_cut t front (chars p ++ rest) ut e
    ∙ ap (λ l. encode_utf8_all front ++ l) (encodes-append (chars p) rest ∙ ap (λ l. l ++ encode_utf8_all rest) (encodes-chars p up))

-- a text whose bytes stand at no place in t stands nowhere among its characters
pub lacks_around : (p t front rest : List ℕ) (i : ℕ) → IsUtf8 p → IsUtf8 t → chars t ≡ front ++ (chars p ++ rest) → length (encode_utf8_all front) ≡ i → ¬ (LacksTextAt p t i)
lacks_around p t front rest i up ut e same lacks =
    let whole = bytes_around p t front rest up ut e in
    let back : drop (length (encode_utf8_all front)) t ≡ p ++ encode_utf8_all rest = ap (drop (length (encode_utf8_all front))) whole ∙ drop-append_seam (encode_utf8_all front) (p ++ encode_utf8_all rest) in
    lacks (encode_utf8_all rest) (ap (λ n. drop n t) (sym same) ∙ back)

-- where the bytes of p stand in t, they are not missing there
pub lacks_bytes : (p t : List ℕ) (k : ℕ) → StandsAt p t k → ¬ (LacksTextAt p t k)
lacks_bytes p t k at lacks =
    let back : drop (length at.0) t ≡ p ++ at.1 = ap (drop (length at.0)) at.2 ∙ drop-append_seam at.0 (p ++ at.1) in
    lacks at.1 (ap (λ n. drop n t) (sym at.3) ∙ back)

-- what is known where the bytes of the text p stand in the text t from i to j
pub record IsCutAround (p t : List ℕ) (i j : ℕ) : Type 0 where
  pub before : IsUtf8 (take i t)
  pub after : IsUtf8 (drop j t)
  pub characters : chars t ≡ chars (take i t) ++ (chars p ++ chars (drop j t))
  pub bytes : t ≡ take i t ++ (p ++ drop j t)

pub cut_around : (p t : List ℕ) (i j : ℕ) → IsUtf8 p → IsUtf8 t → HasTextAt p t i j → i ≤ length t → IsCutAround p t i j
cut_around p t i j up ut at within =
    let end : IsCharBoundary t j = subst (IsCharBoundary t) (sym at.ends) at.after in
    let later : IsUtf8 (drop j t) = IsUtf8-drop t j ut end in
    let from : IsUtf8 (drop i t) = subst IsUtf8 (sym at.split) (IsUtf8-append p (drop j t) up later) in
    let until : IsUtf8 (take i t) = IsUtf8-take t i ut (IsCharBoundary-from_drop t i within from) in
    record {
      before = until;
      after = later;
      characters =
          chars_cut t (take i t) (drop i t) until (sym (take-append-drop i t))
          ∙ ap (λ l. chars (take i t) ++ l) (chars_cut (drop i t) p (drop j t) up at.split);
      bytes = sym (take-append-drop i t) ∙ ap (λ l. take i t ++ l) at.split;
    }
