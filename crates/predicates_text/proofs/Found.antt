-- What std's searches for a text answer, in the words of `specs/Places`.
use Rattle.std.proofs.Common.{◌≡◌, ◌↔◌, ◌<◌, ◌≤◌, List, [], ◌∷◌, ◌++◌, ℕ, Bool, true, false, IsTrue, None, sym, ◌∙◌, ap, refl, length, ◌-◌, take, drop, slice_index, arith, length-append}
use Rattle.std.specs.Bool.{MatchBool}
use Rattle.std.specs.Str.{chars, IsUtf8, encode_utf8_all}
use Rattle.std.specs.Str.Pattern.{HasPrefixMatch, HasSuffixMatch, HasMatch, FindsText, FindsTextPrefix, FindsTextSuffix}
use Rattle.std.proofs.lemmas.Str.{encodes-chars, chars-nil, IsUtf8-take}
use Rattle.predicates_text.specs.Places.{IsFrontOf, IsBackOf, IsPartOf}
use Rattle.predicates_text.proofs.Slices.{chars_cut, bytes_cut, cut_around, lacks_around, bytes_around, lacks_bytes, IsCutAround}

pub empty_chars : (t : List ℕ) → IsUtf8 t → (length t ≡ 0) ↔ (chars t ≡ [])
empty_chars [] u = ((λ _. chars-nil), λ _. refl)
empty_chars (b ∷ bs) u = ((λ e. absurd (omega arith)), λ e. ap length (sym (encodes-chars (b ∷ bs) u) ∙ ap encode_utf8_all e))

pub starts_chars : (p t : List ℕ) (r : Bool) → IsUtf8 p → IsUtf8 t
    → MatchBool r (HasPrefixMatch (FindsTextPrefix p) t) (FindsTextPrefix p t None) → IsTrue r ↔ IsFrontOf (chars p) (chars t)
starts_chars p t true up ut h = ((λ _. (chars (drop h.0 t), chars_cut t p (drop h.0 t) up h.1.1)), λ _. refl)
starts_chars p t false up ut h =
    ((λ e. absurd (cc)), λ f. absurd (h (encode_utf8_all f.0) (bytes_cut t (chars p) f.0 ut f.1 ∙ ap (λ l. l ++ encode_utf8_all f.0) (encodes-chars p up))))

-- the same where the bytes of a text are known to be at the front, or not to be
pub front_chars : (p t : List ℕ) (r : Bool) → IsUtf8 p → IsUtf8 t → IsTrue r ↔ IsFrontOf p t → IsTrue r ↔ IsFrontOf (chars p) (chars t)
front_chars p t r up ut h = (
  (λ e. let f = h.0 e in (chars f.0, chars_cut t p f.0 up f.1)),
  λ f. h.1 (encode_utf8_all f.0, bytes_cut t (chars p) f.0 ut f.1 ∙ ap (λ l. l ++ encode_utf8_all f.0) (encodes-chars p up)),
)

-- a list of one
pub of_one : (s : List ℕ) → 1 ≤ length s → length s < 2 → slice_index s 0 ∷ [] ≡ s
of_one [] some few = absurd (omega (arith, some))
of_one (a ∷ []) some few = refl
of_one (a ∷ b ∷ s) some few = absurd (omega (arith, few))

pub ends_chars : (p t : List ℕ) (r : Bool) → IsUtf8 p → IsUtf8 t
    → MatchBool r (HasSuffixMatch (FindsTextSuffix p) t) (FindsTextSuffix p t None) → IsTrue r ↔ IsBackOf (chars p) (chars t)
ends_chars p t true up ut h =
    ((λ _. (chars (take (length t - h.0) t), chars_cut t (take (length t - h.0) t) p (IsUtf8-take t (length t - h.0) ut h.3) h.1.1)), λ _. refl)
ends_chars p t false up ut h =
    ((λ e. absurd (cc)), λ f. absurd (h (encode_utf8_all f.0) (bytes_cut t f.0 (chars p) ut f.1 ∙ ap (λ l. encode_utf8_all f.0 ++ l) (encodes-chars p up))))

pub contains_chars : (p t : List ℕ) (r : Bool) → IsUtf8 p → IsUtf8 t
    → MatchBool r (HasMatch (FindsText p) t) (FindsText p t None) → IsTrue r ↔ IsPartOf (chars p) (chars t)
contains_chars p t true up ut h =
    let cut : IsCutAround p t h.0 h.1 = cut_around p t h.0 h.1 up ut h.2.1 (omega (arith, h.3, h.4)) in
    ((λ _. record { place = length (chars (take h.0 t)); stands = (chars (take h.0 t), chars (drop h.1 t), cut.characters, refl) }), λ _. refl)
contains_chars p t false up ut h = (
  (λ e. absurd (cc)),
  λ f.
      let whole = bytes_around p t f.stands.0 f.stands.1 up ut f.stands.2 in
      absurd (lacks_around p t f.stands.0 f.stands.1 (length (encode_utf8_all f.stands.0)) up ut f.stands.2 refl
      (h (length (encode_utf8_all f.stands.0)) (omega (arith, ap length whole, length-append (encode_utf8_all f.stands.0) (p ++ encode_utf8_all f.stands.1))))),
)

-- the same place among the bytes
pub contains_bytes : (p t : List ℕ) (r : Bool) → IsUtf8 p → IsUtf8 t
    → MatchBool r (HasMatch (FindsText p) t) (FindsText p t None) → IsTrue r ↔ IsPartOf p t
contains_bytes p t true up ut h =
    let cut : IsCutAround p t h.0 h.1 = cut_around p t h.0 h.1 up ut h.2.1 (omega (arith, h.3, h.4)) in
    ((λ _. record { place = length (take h.0 t); stands = (take h.0 t, drop h.1 t, cut.bytes, refl) }), λ _. refl)
contains_bytes p t false up ut h = (
  (λ e. absurd (cc)),
  λ f. absurd (lacks_bytes p t f.place f.stands (h f.place
      (omega (arith, ap length f.stands.2, f.stands.3, length-append f.stands.0 (p ++ f.stands.1))))),
)
