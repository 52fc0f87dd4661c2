-- Two searches answer whether one text stands in another: std's for a text, and memchr's for bytes.
use Rattle.std.proofs.Common.{◌≡◌, ◌↔◌, List, ◌++◌, ℕ, ◌+◌, ◌-◌, ◌≤◌, ◌<◌, Bool, IsTrue, Option, None, Some, true, length, get_or, take, drop, refl, sym, ◌∙◌, ap, subst, ⊎_elim, arith, length-append}
use Rattle.std.specs.Bool.{MatchBool}
use Rattle.std.specs.Option.{is_some}
use Rattle.std.specs.Str.{chars, IsUtf8, IsCharBoundary}
use Rattle.std.specs.Str.Pattern.{HasMatch, HasTextAt, FindsText, LacksTextAt}
use Rattle.std.proofs.lemmas.Bool.{cases_lt}
use Rattle.std.proofs.lemmas.Str.{IsUtf8-drop, IsCharBoundary-start, IsCharBoundary-from_take, IsCharBoundary-from_rest}
use Rattle.std.proofs.lemmas.List.{take_all, length-drop, length-take-le, get_or-take, get_or-drop, get_or_append_left, drop-drop, take-append-drop, ext_get_or}
use Rattle.std.proofs.lemmas.Bool.Decides.{nat_tests}
use Rattle.memchr.specs.Find.{OccursAt, FindsNeedle, IsFirstByte, is_byte}
use Rattle.predicates_text.specs.Places.{IsPartOf, is_part}
use Rattle.predicates_text.proofs.Found.{contains_chars, contains_bytes}
use Rattle.predicates_text.specs.PlaceLaws.{part_decides, same_test}

-- where the bytes begin what is left from a place on, they occur there
occurs : (p t rest : List ℕ) (i : ℕ) → i ≤ length t → drop i t ≡ p ++ rest → OccursAt t p i
occurs p t rest i within e = record {
  fits = omega (arith, within, ap length e, length-drop i t, length-append p rest);
  reads = λ j lt. sym (get_or-drop i t j 0) ∙ ap (λ l. get_or l j 0) e ∙ get_or_append_left p rest 0 j lt;
}

-- bytes that do not occur at a place are missing there
missing : (p t : List ℕ) (i : ℕ) → i ≤ length t → ¬ (OccursAt t p i) → LacksTextAt p t i
missing p t i within none rest e = none (occurs p t rest i within e)

-- where they occur they begin what is left
begins : (p t : List ℕ) (k : ℕ) → OccursAt t p k → take (length p) (drop k t) ≡ p
begins p t k at =
    let long : length (take (length p) (drop k t)) ≡ length p = length-take-le (length p) (drop k t) (omega (arith, length-drop k t, at.fits)) in
    ext_get_or 0 (take (length p) (drop k t)) p long
    (λ j lt. let low : j < length p = omega (arith, lt, long) in get_or-take (length p) (drop k t) j 0 low ∙ get_or-drop k t j 0 ∙ at.reads j low)

-- the first place of a text's bytes cuts no character
begun : (p t : List ℕ) (k : ℕ) → IsUtf8 p → IsUtf8 t → ((i : ℕ) → i < k → ¬ (OccursAt t p i)) → OccursAt t p k → IsCharBoundary t k
begun p t k up ut before at = ⊎_elim
    (λ some.
    let same : get_or t (k + 0) 0 ≡ get_or p 0 0 = at.reads 0 some in
    let here : get_or t k 0 ≡ get_or p 0 0 = ap (λ n. get_or t n 0) (sym (zero_more k)) ∙ same in
    (omega (arith, at.fits), λ within high. omega (arith, here, (IsCharBoundary-start p up).1 some (omega (arith, here, high)))))
    (λ none. ⊎_elim
    (λ later. absurd (before 0 later (record { fits = omega (arith, none); reads = λ j lt. absurd (omega (arith, lt, none)) })))
    (λ first. let e : 0 ≡ k = omega (arith, first) in subst (IsCharBoundary t) e (IsCharBoundary-start t ut))
    (cases_lt 0 k))
    (cases_lt 0 (length p))
  where
    zero_more : (k : ℕ) → k + 0 ≡ k
    zero_more k = omega arith

-- there it is a text that ends where a character does
stands : (p t : List ℕ) (k : ℕ) → IsUtf8 p → IsUtf8 t → IsCharBoundary t k → OccursAt t p k → HasTextAt p t k (k + length p)
stands p t k up ut here at =
    let left : IsUtf8 (drop k t) = IsUtf8-drop t k ut here in
    let front : take (length p) (drop k t) ≡ p = begins p t k at in
    let within : length p ≤ length (drop k t) = omega (arith, at.fits, length-drop k t) in
    let end : IsCharBoundary (drop k t) (length p) = IsCharBoundary-from_take (drop k t) (length p) left within (subst IsUtf8 (sym front) up) in
    record {
      split = sym (take-append-drop (length p) (drop k t)) ∙ (λ i. front i ++ drop-drop (length p) k t i);
      ends = refl;
      after = IsCharBoundary-from_rest t k (length p) (omega (arith, at.fits)) end;
    }

-- where the pattern stands its byte at s stands so much later
byte_stands : (p t : List ℕ) (s k : ℕ) → s < length p → OccursAt t p k → (k < length (drop s t)) × (is_byte (get_or p s 0) (get_or (drop s t) k 0) ≡ true)
byte_stands p t s k inside at =
    let later : s + k ≡ k + s = omega arith in
    let same : get_or (drop s t) k 0 ≡ get_or p s 0 = get_or-drop s t k 0 ∙ ap (λ n. get_or t n 0) later ∙ at.reads s inside in
    (omega (arith, length-drop s t, at.fits, inside), grind (arith, nat_tests, same))

-- the slice of what is left from a place on
abbrev left_from : ℕ → List ℕ → List ℕ
left_from s t = take (length t - s) (drop s t)

left_is : (s : ℕ) (t : List ℕ) → left_from s t ≡ drop s t
left_is s t = take_all (length t - s) (drop s t) (omega (arith, length-drop s t))

first_left : (p t : List ℕ) (s : ℕ) (r : Option ℕ) → IsFirstByte (is_byte (get_or p s 0)) (left_from s t) r → IsFirstByte (is_byte (get_or p s 0)) (drop s t) r
first_left p t s r = subst (λ l. IsFirstByte (is_byte (get_or p s 0)) l r) (left_is s t)

-- without that byte it stands nowhere
pub lacks_byte : (p t : List ℕ) (s : ℕ) → s < length p → IsFirstByte (is_byte (get_or p s 0)) (left_from s t) None → FindsNeedle t p 0 None
lacks_byte p t s inside none = λ k low high at.
    let stands = byte_stands p t s k inside at in first_left p t s None none k low stands.0 stands.1

-- where that byte is seen first the pattern has its first place, if it stands there
pub first_by_byte : (p t : List ℕ) (s k : ℕ) → s < length p → IsFirstByte (is_byte (get_or p s 0)) (left_from s t) (Some k) → OccursAt (left_from k t) p 0 → FindsNeedle t p 0 (Some k)
first_by_byte p t s k inside seen begun_here =
    let first = first_left p t s (Some k) seen in
    let at : OccursAt (drop k t) p 0 = subst (λ l. OccursAt l p 0) (left_is k t) begun_here in
    let within : k ≤ length t = omega (arith, first.0.high, length-drop s t) in (
      record {
        low = omega arith;
        high = omega (arith, within);
        before = λ i low lt earlier. first.0.before i low lt (byte_stands p t s i inside earlier).1;
      },
      record {
        fits = omega (arith, within, at.fits, length-drop k t);
        reads = λ j lt. let same : 0 + j ≡ j = omega arith in sym (get_or-drop k t j 0) ∙ ap (λ n. get_or (drop k t) n 0) (sym same) ∙ at.reads j lt;
      },
    )

-- where a search for the bytes of a text finds them, a search for the text does
pub found_text : (p t : List ℕ) (k : ℕ) → IsUtf8 p → IsUtf8 t → FindsNeedle t p 0 (Some k) → FindsText p t (Some (k, k + length p))
found_text p t k up ut h =
    let before : (i : ℕ) → i < k → ¬ (OccursAt t p i) = λ i lt. h.0.before i (omega arith) lt in
    ((λ i lt. missing p t i (omega (arith, lt, h.1.fits)) (before i lt)), stands p t k up ut (begun p t k up ut before h.1) h.1)

pub lacks_text : (p t : List ℕ) → FindsNeedle t p 0 None → FindsText p t None
lacks_text p t nowhere = λ i le. missing p t i le (nowhere i (omega arith) (omega (arith, le)))

bytes_decide : (p t : List ℕ) (r : Option ℕ) → IsUtf8 p → IsUtf8 t → FindsNeedle t p 0 r → MatchBool (is_some r) (HasMatch (FindsText p) t) (FindsText p t None)
bytes_decide p t None up ut nowhere = lacks_text p t nowhere
bytes_decide p t (Some k) up ut h = (k, k + length p, found_text p t k up ut h, omega arith, h.1.fits)

-- the answer of a search, in characters and in bytes
pub record DecidesPart (p t : List ℕ) (r : Bool) : Type 0 where
  pub part : IsTrue r ↔ IsPartOf (chars p) (chars t)
  pub bytes : IsTrue r ↔ IsPartOf p t
  pub value : r ≡ is_part (chars p) (chars t)

pub search_decides : (p t : List ℕ) (r : Bool) → IsUtf8 p → IsUtf8 t → MatchBool r (HasMatch (FindsText p) t) (FindsText p t None) → DecidesPart p t r
search_decides p t r up ut found =
    let is = contains_chars p t r up ut found in
    record { part = is; bytes = contains_bytes p t r up ut found; value = same_test _ _ is (part_decides _ _) }

-- the bytes of a text and of a pattern, by their other names
pub of_texts : (p t bytes hay : List ℕ) (r : Option ℕ) → bytes ≡ p → hay ≡ t → FindsNeedle hay bytes 0 r → FindsNeedle t p 0 r
of_texts p t bytes hay r is_p is_t found = subst (λ n. FindsNeedle t n 0 r) is_p (subst (λ l. FindsNeedle l bytes 0 r) is_t found)

-- the same of a search for bytes
pub byte_search_decides : (p t bytes hay : List ℕ) (r : Option ℕ) (b : Bool) → bytes ≡ p → hay ≡ t → b ≡ is_some r → IsUtf8 p → IsUtf8 t → FindsNeedle hay bytes 0 r → DecidesPart p t b
byte_search_decides p t bytes hay r b is_p is_t is_b up ut found =
    subst (DecidesPart p t) (sym is_b) (search_decides p t (is_some r) up ut (bytes_decide p t r up ut (of_texts p t bytes hay r is_p is_t found)))
