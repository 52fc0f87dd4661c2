-- How often one ASCII character stands in a text is how often its byte does.
use Rattle.std.proofs.Common.{◌≡◌, List, [], ◌∷◌, ◌++◌, ℕ, zero, suc, Bool, cond, take, ◌+◌, ◌≤◌, ◌<◌, true, false, eqb, length, filter, get_or, sym, ◌∙◌, ap, refl, subst, ⊎_elim, arith, length-append, append-nil}
use Rattle.std.specs.Char.{encode_utf8, is_ascii}
use Rattle.std.specs.Str.{chars, IsUtf8, IsAscii, encode_utf8_all}
use Rattle.std.proofs.lemmas.Bool.{cases_Bool, cases_lt}
use Rattle.std.proofs.lemmas.Bool.Decides.{nat_tests}
use Rattle.std.proofs.lemmas.List.Elements.{filter-append, filter_more}
use Rattle.std.proofs.lemmas.Str.{inside_one, encode_ascii, encodes-chars, chars-IsAscii}
use Rattle.predicates_text.specs.Count.{IsCountOf, count_of, count_past}
use Rattle.predicates_text.specs.CountLaws.{count_of_counts, count_of_is}

abbrev times : ℕ → List ℕ → ℕ
times b t = length (filter (eqb b) t)

times_append : (b : ℕ) (s t : List ℕ) → times b (s ++ t) ≡ times b s + times b t
times_append b s t = ap length (filter-append (eqb b) s t) ∙ length-append (filter (eqb b) s) (filter (eqb b) t)

-- the byte at a place is one more where it is the same
pub times_more : (b : ℕ) (t : List ℕ) (i n m : ℕ) → i < length t → n ≡ times b (take i t) → m ≡ n + cond (eqb b (get_or t i 0)) 1 0 → m ≡ times b (take (i + 1) t)
times_more b t i n m lt so_far more =
    more ∙ ap (λ k. k + cond (eqb b (get_or t i 0)) 1 0) so_far ∙ ap (λ k. times b (take i t) + k) (of_one (eqb b (get_or t i 0)))
    ∙ sym (ap length (filter_more (eqb b) t i 0 lt) ∙ length-append (filter (eqb b) (take i t)) (cond (eqb b (get_or t i 0)) (get_or t i 0 ∷ []) []))
  where
    of_one : (same : Bool) → cond same 1 0 ≡ length (cond same (get_or t i 0 ∷ []) [])
    of_one true = refl
    of_one false = refl

-- a byte that stands at no place
never : (b : ℕ) (l : List ℕ) → ((k : ℕ) → k < length l → eqb b (get_or l k 0) ≡ false) → times b l ≡ 0
never b [] differs = refl
never b (x ∷ l) differs = rw (differs 0 (omega arith)) (never b l (λ k lt. differs (suc k) (omega (arith, lt))))

-- no byte of a character beyond ASCII is one of ASCII
beyond : (b c k : ℕ) → b < 128 → 128 ≤ c → k < length (encode_utf8 c) → eqb b (get_or (encode_utf8 c) k 0) ≡ false
beyond b c k ascii high lt = ⊎_elim
    (λ same.
    let is : b ≡ get_or (encode_utf8 c) k 0 = grind (arith, nat_tests, same) in
    let one : c ≡ get_or (encode_utf8 c) k 0 = inside_one c [] (encode_utf8 c) k (sym (append-nil (encode_utf8 c))) lt (omega (arith, is, ascii)) in
    absurd (omega (arith, is, one, ascii, high)))
    (λ differs. differs)
    (cases_Bool (eqb b (get_or (encode_utf8 c) k 0)))

times_in_one : (b c : ℕ) → b < 128 → times b (encode_utf8 c) ≡ times b (c ∷ [])
times_in_one b c ascii = ⊎_elim
    (λ low. ap (times b) (encode_ascii c low))
    (λ high.
    let differs : eqb b c ≡ false = grind (arith, nat_tests, ascii, high) in
    never b (encode_utf8 c) (λ k. beyond b c k ascii high) ∙ rw differs refl)
    (cases_lt c 128)

times_in_all : (b : ℕ) (cs : List ℕ) → b < 128 → times b (encode_utf8_all cs) ≡ times b cs
times_in_all b [] ascii = refl
times_in_all b (c ∷ cs) ascii =
    times_append b (encode_utf8 c) (encode_utf8_all cs) ∙ (λ i. times_in_one b c ascii i + times_in_all b cs ascii i) ∙ sym (times_append b (c ∷ []) cs)

-- the byte stands as often among the bytes of a text as the character among its characters
times_of_text : (b : ℕ) (t : List ℕ) → b < 128 → IsUtf8 t → times b t ≡ times b (chars t)
times_of_text b t ascii u = ap (times b) (sym (encodes-chars t u)) ∙ times_in_all b (chars t) ascii

times_is_count : (b : ℕ) (t : List ℕ) → times b t ≡ count_of (b ∷ []) t
unfolding count_past
times_is_count b [] = refl
times_is_count b (c ∷ t) = ⊎_elim
    (λ same. rw same (ap suc (times_is_count b t)))
    (λ differs. rw differs (times_is_count b t))
    (cases_Bool (eqb b c))

-- what is counted by its byte is the count
pub record IsByteCount (pattern text : List ℕ) (n : ℕ) : Type 0 where
  pub among_characters : IsCountOf (chars pattern) (chars text) n
  pub among_bytes : IsCountOf pattern text n
  pub value : n ≡ count_of (chars pattern) (chars text)

one_item : (l : List ℕ) → 1 ≤ length l → length l < 2 → l ≡ get_or l 0 0 ∷ []
one_item [] some few = absurd (omega (arith, some))
one_item (b ∷ []) some few = refl
one_item (b ∷ c ∷ l) some few = absurd (omega (arith, few))

one_ascii : (b : ℕ) → b < 128 → IsAscii (b ∷ [])
one_ascii b low zero = low
one_ascii b low (suc i) = omega arith

pub byte_count : (pattern text bytes : List ℕ) (n : ℕ) → bytes ≡ pattern → 1 ≤ length bytes → length bytes < 2 → is_ascii (get_or bytes 0 0) ≡ true → IsUtf8 text → n ≡ times (get_or bytes 0 0) text → IsByteCount pattern text n
byte_count pattern text bytes n e some few is_one u is =
    let b = get_or bytes 0 0 in
    let one : pattern ≡ b ∷ [] = sym e ∙ one_item bytes some few in
    let ascii : b < 128 = grind (arith, nat_tests, is_one) in
    let of_bytes : IsCountOf pattern text n = subst (λ p. IsCountOf p text n) (sym one) (subst (IsCountOf (b ∷ []) text) (sym (is ∙ times_is_count b text)) (count_of_counts (b ∷ []) text)) in
    let same : chars pattern ≡ b ∷ [] = ap chars one ∙ chars-IsAscii (b ∷ []) (one_ascii b ascii) in
    let counted : n ≡ count_of (b ∷ []) (chars text) = is ∙ times_of_text b text ascii u ∙ times_is_count b (chars text) in
    let of_characters : IsCountOf (chars pattern) (chars text) n = subst (λ p. IsCountOf p (chars text) n) (sym same) (subst (IsCountOf (b ∷ []) (chars text)) (sym counted) (count_of_counts (b ∷ []) (chars text))) in
    record { among_characters = of_characters; among_bytes = of_bytes; value = count_of_is (chars pattern) (chars text) n of_characters }
