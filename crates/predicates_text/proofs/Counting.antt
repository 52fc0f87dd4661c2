-- The count of a text's characters and of its bytes, by its first place and what follows that.
use Rattle.std.proofs.Common.{◌≡◌, ◌≢◌, List, [], ◌∷◌, ◌++◌, ℕ, suc, ◌+◌, ◌<◌, ◌≤◌, length, take, drop, sym, ◌∙◌, ap, refl, subst, ⊎_elim, arith, length-append, length-drop}
use Rattle.std.proofs.lemmas.List.{take-append-le, take-append-drop, length-take, take_at, nil_from_length}
use Rattle.std.proofs.lemmas.Bool.{cases_lt}
use Rattle.std.specs.Str.{chars, IsUtf8, IsCharBoundary, encode_utf8_all}
use Rattle.std.specs.Str.Pattern.{FindsText, LacksTextAt, SplitsAroundMatch}
use Rattle.std.proofs.Common.{None, Some, length-take}
use Rattle.memchr.specs.Find.{OccursAt, FindsNeedle}
use Rattle.std.proofs.lemmas.Str.{encodes-chars, encodes-append, length-le-encodes}
use Rattle.predicates_text.proofs.Slices.{cut_around, lacks_around, lacks_bytes, bytes_around, IsCutAround}
use Rattle.predicates_text.proofs.Found.{empty_chars}
use Rattle.predicates_text.proofs.Searching.{found_text, lacks_text, of_texts}
use Rattle.predicates_text.specs.Places.{StandsAt}
use Rattle.predicates_text.specs.Count.{IsCountOf, IsPastFirst, IsNowhere}
use Rattle.predicates_text.specs.Counting.{count_none, count_more, count_empty}

-- a front with fewer characters has fewer bytes
front_shorter : (cs : List ℕ) (k : ℕ) → k < length cs → length (encode_utf8_all (take k cs)) < length (encode_utf8_all cs)
front_shorter cs k l =
    let whole : encode_utf8_all cs ≡ encode_utf8_all (take k cs) ++ encode_utf8_all (drop k cs) = ap encode_utf8_all (sym (take-append-drop k cs)) ∙ encodes-append (take k cs) (drop k cs) in
    omega (arith, ap length whole, length-append (encode_utf8_all (take k cs)) (encode_utf8_all (drop k cs)), length-le-encodes (drop k cs), length-drop k cs)

-- no place among the characters comes before the first place among the bytes
first_place : (p t : List ℕ) (i j : ℕ) → IsUtf8 p → IsUtf8 t → IsCutAround p t i j → i ≤ length t
    → ((k : ℕ) → k < i → LacksTextAt p t k) → (k : ℕ) → StandsAt (chars p) (chars t) k → length (chars (take i t)) ≤ k
first_place p t i j up ut cut within lacks k at = ⊎_elim
    (λ early.
    let before : List ℕ = chars (take i t) in
    let same : at.0 ≡ take k before =
    sym (take_at at.0 (chars p ++ at.1) k at.3) ∙ ap (take k) (sym at.2 ∙ cut.characters)
    ∙ take-append-le k before (chars p ++ chars (drop j t)) (omega (arith, early)) in
    let bytes : encode_utf8_all before ≡ take i t = encodes-chars (take i t) cut.before in
    let shorter : length (encode_utf8_all at.0) < i =
    omega (arith, ap (λ l. length (encode_utf8_all l)) same, front_shorter before k early, ap length bytes, length-take i t) in
    absurd (lacks_around p t at.0 at.1 (length (encode_utf8_all at.0)) up ut at.2 refl (lacks (length (encode_utf8_all at.0)) shorter)))
    (λ late. late)
    (cases_lt k (length (chars (take i t))))

-- where the text p is found nowhere
count_missing : (p t : List ℕ) → IsUtf8 p → IsUtf8 t → FindsText p t None → IsCountOf (chars p) (chars t) 0
count_missing p t up ut lacks = count_none (chars p) (chars t) (λ i at.
    let whole = bytes_around p t at.0 at.1 up ut at.2 in
    lacks_around p t at.0 at.1 (length (encode_utf8_all at.0)) up ut at.2 refl
    (lacks (length (encode_utf8_all at.0)) (omega (arith, ap length whole, length-append (encode_utf8_all at.0) (p ++ encode_utf8_all at.1)))))

pub filled : (cs : List ℕ) → cs ≢ [] → 1 ≤ length cs
filled [] some = absurd (some refl)
filled (c ∷ cs) some = omega arith

-- no place among the bytes comes before the first
first_bytes : (p t : List ℕ) (i : ℕ) → i ≤ length t → ((k : ℕ) → k < i → LacksTextAt p t k) → (k : ℕ) → StandsAt p t k → length (take i t) ≤ k
first_bytes p t i within lacks k at = ⊎_elim
    (λ early. absurd (lacks_bytes p t k at (lacks k early)))
    (λ late. omega (arith, late, length-take i t))
    (cases_lt k i)

count_missing_bytes : (p t : List ℕ) → FindsText p t None → IsCountOf p t 0
count_missing_bytes p t lacks = count_none p t (λ i at.
    lacks_bytes p t i at (lacks i (omega (arith, ap length at.2, at.3, length-append at.0 (p ++ at.1)))))

chars_some : (p : List ℕ) → IsUtf8 p → 1 ≤ length p → 1 ≤ length (chars p)
chars_some p u l = ⊎_elim
    (λ none. absurd (omega (arith, (empty_chars p u).1 (nil_from_length (chars p) (omega (arith, none))), l)))
    (λ some. some)
    (cases_lt (length (chars p)) 1)

-- past the first place, wherever it is
pub past_place : (p t front back : List ℕ) → IsUtf8 p → IsUtf8 t → 1 ≤ length p → SplitsAroundMatch (FindsText p) t front back → IsPastFirst p t back
past_place p t front back up ut some h =
    let i : ℕ = h.0 in
    let j : ℕ = h.1 in
    let within : i ≤ length t = omega (arith, h.5, h.7) in
    let cut : IsCutAround p t i j = cut_around p t i j up ut h.2.1 within in
    record {
      shorter = omega (arith, h.7, h.5, h.2.1.ends, some);
      among_characters = λ n counted.
          count_more (chars p) (chars t) (chars (take i t)) (chars (drop j t)) n (chars_some p up some) cut.characters
          (first_place p t i j up ut cut within h.2.0)
          (subst (λ l. IsCountOf (chars p) (chars l) n) h.4 counted);
      among_bytes = λ n counted. count_more p t (take i t) (drop j t) n some cut.bytes
          (first_bytes p t i within h.2.0)
          (subst (λ l. IsCountOf p l n) h.4 counted);
    }

pub nowhere : (p t : List ℕ) → IsUtf8 p → IsUtf8 t → FindsText p t None → IsNowhere p t
nowhere p t up ut lacks = record {
  among_characters = count_missing p t up ut lacks;
  among_bytes = count_missing_bytes p t lacks;
}

-- the same by a search for the bytes
pub cut_found : (p t : List ℕ) (k : ℕ) → IsUtf8 p → IsUtf8 t → FindsNeedle t p 0 (Some k) → IsCharBoundary t (k + length p)
cut_found p t k up ut found = (found_text p t k up ut found).1.after

pub past_found : (p t back : List ℕ) (k : ℕ) → IsUtf8 p → IsUtf8 t → 1 ≤ length p → FindsNeedle t p 0 (Some k) → back ≡ drop (k + length p) t → IsPastFirst p t back
past_found p t back k up ut some found is = past_place p t (take k t) back up ut some (
  k,
  k + length p,
  found_text p t k up ut found,
  refl,
  is,
  omega arith,
  omega (arith, length-take k t, found.1.fits),
  omega (arith, ap length is, length-drop (k + length p) t, found.1.fits),
)

-- a place at the front
pub found_at_front : (p t bytes hay : List ℕ) → bytes ≡ p → hay ≡ t → OccursAt hay bytes 0 → FindsNeedle t p 0 (Some 0)
found_at_front p t bytes hay is_p is_t at = of_texts p t bytes hay (Some 0) is_p is_t
    (record { low = omega arith; high = omega arith; before = λ i low lt. absurd (omega (arith, lt)) }, at)

pub cut_front : (p t : List ℕ) → IsUtf8 p → IsUtf8 t → FindsNeedle t p 0 (Some 0) → IsCharBoundary t (length p)
cut_front p t up ut found = let same : 0 + length p ≡ length p = omega arith in subst (IsCharBoundary t) same (cut_found p t 0 up ut found)

pub past_front : (p t back : List ℕ) → IsUtf8 p → IsUtf8 t → 1 ≤ length p → FindsNeedle t p 0 (Some 0) → back ≡ drop (length p) t → IsPastFirst p t back
past_front p t back up ut some found is =
    let same : length p ≡ 0 + length p = omega arith in past_found p t back 0 up ut some found (is ∙ ap (λ n. drop n t) same)

pub nowhere_found : (p t : List ℕ) → IsUtf8 p → IsUtf8 t → FindsNeedle t p 0 None → IsNowhere p t
nowhere_found p t up ut found = nowhere p t up ut (lacks_text p t found)

-- the empty text
pub count_empty_text : (p t : List ℕ) (n : ℕ) → IsUtf8 p → length p ≡ 0 → n ≡ length (chars t) → IsCountOf (chars p) (chars t) (n + 1)
count_empty_text p t n up none is =
    let same : n + 1 ≡ suc (length (chars t)) = omega (arith, is) in
    subst (λ m. IsCountOf (chars p) (chars t) m) (sym same)
    (subst (λ l. IsCountOf l (chars t) (suc (length (chars t)))) (sym ((empty_chars p up).0 none)) (count_empty (chars t)))

-- the text t has n more places than its back `rest`, among the characters and among the bytes
pub record IsCountedTo (p t : List ℕ) (n : ℕ) (rest : List ℕ) : Type 0 where
  pub among_characters : (k : ℕ) → IsCountOf (chars p) (chars rest) k → IsCountOf (chars p) (chars t) (n + k)
  pub among_bytes : (k : ℕ) → IsCountOf p rest k → IsCountOf p t (n + k)

pub counted_on : (p t rest back : List ℕ) (n : ℕ) → IsCountedTo p t n rest → IsPastFirst p rest back → IsCountedTo p t (n + 1) back
counted_on p t rest back n so_far next = record {
  among_characters = λ k counted.
      subst (λ m. IsCountOf (chars p) (chars t) m) (one_more k) (so_far.among_characters (suc k) (next.among_characters k counted));
  among_bytes = λ k counted. subst (λ m. IsCountOf p t m) (one_more k) (so_far.among_bytes (suc k) (next.among_bytes k counted));
}
  where
    one_more : (k : ℕ) → n + suc k ≡ n + 1 + k
    one_more k = omega arith
