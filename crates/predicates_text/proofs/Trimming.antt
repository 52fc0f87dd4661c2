-- What std's `trim` and the search for a carriage return give, in the words of `specs/Views`.
use Rattle.std.proofs.Common.{◌≡◌, List, [], ◌∷◌, ◌++◌, ℕ, suc, ◌+◌, ◌-◌, ◌≤◌, Bool, true, false, cond, ◌&&◌, ◌||◌, eqb, leb, ltb, length, take, drop, sym, ◌∙◌, ap, refl, ⊎_elim, arith, length-append, min, reverse}
use Rattle.std.specs.List.{prefix_len, suffix_len}
use Rattle.std.specs.Char.{is_whitespace}
use Rattle.std.specs.Str.{chars, IsUtf8, encode_utf8_all, all_scalars, skip_leading_whitespace, drop_trailing_whitespace, trim_start, trim_end, trim, IsTrim}
use Rattle.std.proofs.lemmas.Bool.{and_parts, and_from, cases_Bool, cases_lt}
use Rattle.std.proofs.lemmas.Bool.Decides.{nat_tests, eqb_tells}
use Rattle.std.proofs.lemmas.Str.{chars-encodes, scalars-chars}
use Rattle.std.proofs.lemmas.List.{reverse-append, length-reverse, length-drop, length-take, nil_from_length, take_all, take-append-drop}
use Rattle.std.proofs.lemmas.List.Folds.{prefix_len-append, length-prefix_len}
use Rattle.std.proofs.lemmas.List.Sums.{suffix_len-le-length}
use lib.Utf8.{scalar}
use Rattle.std.specs.Prelude.{Result, Ok, Err, IfOk, string_bytes}
use Rattle.predicates_core.specs.Text.{Text}
use Rattle.predicates_text.specs.Views.{is_white_space, trimmed}

-- std's test is the list of ranges
range_of_one : (n c : ℕ) → eqb c n ≡ (leb n c && leb c n)
range_of_one n c = grind (arith, nat_tests)

below_range : (low high c : ℕ) → (ltb low c && ltb c (high + 1)) ≡ (leb (low + 1) c && leb c high)
below_range low high c = grind (arith, nat_tests)

regroup : (a b c d e f g h i j k : Bool) → ((((((((((a || b) || c) || d) || e) || f) || g) || h) || i) || j) || k) ≡ (a || (b || (c || (d || (e || (f || (g || (h || (i || (j || (k || false)))))))))))
regroup true b c d e f g h i j k = refl
regroup false true c d e f g h i j k = refl
regroup false false true d e f g h i j k = refl
regroup false false false true e f g h i j k = refl
regroup false false false false true f g h i j k = refl
regroup false false false false false true g h i j k = refl
regroup false false false false false false true h i j k = refl
regroup false false false false false false false true i j k = refl
regroup false false false false false false false false true j k = refl
regroup false false false false false false false false false true k = refl
regroup false false false false false false false false false false true = refl
regroup false false false false false false false false false false false = refl

both : {a b a' b' : Bool} → a ≡ a' → b ≡ b' → (a || b) ≡ (a' || b')
both e f i = e i || f i

pub white_space_same : (c : ℕ) → is_whitespace c ≡ is_white_space c
white_space_same c =
    regroup (ltb 8 c && ltb c 14) (eqb c 32) (eqb c 133) (eqb c 160) (eqb c 5760) (ltb 8191 c && ltb c 8203) (eqb c 8232) (eqb c 8233) (eqb c 8239) (eqb c 8287) (eqb c 12288)
    ∙ both (below_range 8 13 c) (both (range_of_one 32 c) (both (range_of_one 133 c) (both (range_of_one 160 c) (both (range_of_one 5760 c)
    (both (below_range 8191 8202 c) (both (range_of_one 8232 c) (both (range_of_one 8233 c) (both (range_of_one 8239 c) (both (range_of_one 8287 c)
    (both (range_of_one 12288 c) refl))))))))))

prefix_agree : (cs : List ℕ) → prefix_len is_whitespace cs ≡ prefix_len is_white_space cs
prefix_agree [] = refl
prefix_agree (c ∷ cs) = λ i. cond (white_space_same c i) (1 + prefix_agree cs i) 0

one_more : {A : Type 0} (n : ℕ) (c : A) (cs : List A) → drop (1 + n) (c ∷ cs) ≡ drop n cs
one_more n c cs = let e : 1 + n ≡ suc n = omega arith in ap (λ k. drop k (c ∷ cs)) e

front_is : (cs : List ℕ) → skip_leading_whitespace cs ≡ drop (prefix_len is_whitespace cs) cs
front_is [] = refl
front_is (c ∷ cs) = ⊎_elim
    (λ is. rw is (front_is cs ∙ sym (one_more (prefix_len is_whitespace cs) c cs)))
    (λ is. rw is refl)
    (cases_Bool (is_whitespace c))

-- of a character before a list, at the end
suffix_before : (c : ℕ) (cs : List ℕ) → suffix_len is_whitespace (c ∷ cs)
    ≡ cond (eqb (suffix_len is_whitespace cs) (length cs)) (length cs + cond (is_whitespace c) 1 0) (suffix_len is_whitespace cs)
suffix_before c cs =
    ap (prefix_len is_whitespace) (reverse-append (c ∷ []) cs) ∙ prefix_len-append is_whitespace (reverse cs) (c ∷ [])
    ∙ ap (λ n. cond (eqb (suffix_len is_whitespace cs) n) (n + cond (is_whitespace c) 1 0) (suffix_len is_whitespace cs)) (length-reverse cs)

-- one character before a list of which n stand at the end in white space
back_step : (b : Bool) (c : ℕ) (cs kept : List ℕ) (n m : ℕ) → n ≤ length cs → kept ≡ take (length cs - n) cs
    → m ≡ cond (eqb n (length cs)) (length cs + cond b 1 0) n → cond (b && eqb (length kept) 0) [] (c ∷ kept) ≡ take (suc (length cs) - m) (c ∷ cs)
back_step b c cs kept n m within is counted = ⊎_elim
    (λ some.
    let apart : eqb n (length cs) ≡ false = grind (arith, nat_tests, some) in
    let same : m ≡ n = counted ∙ rw apart refl in
    let long : length kept ≡ length cs - n = ap length is ∙ length-take (length cs - n) cs ∙ omega arith in
    let stays : eqb (length kept) 0 ≡ false = grind (arith, nat_tests, some, long) in
    let left : suc (length cs) - m ≡ suc (length cs - n) = omega (arith, same, some) in
    (rw stays (never b c kept)) ∙ ap (λ l. c ∷ l) is ∙ ap (λ k. take k (c ∷ cs)) (sym left))
    (λ all.
    let whole : n ≡ length cs = omega (arith, all, within) in
    let agree : eqb n (length cs) ≡ true = grind (arith, nat_tests, whole) in
    let same : m ≡ length cs + cond b 1 0 = counted ∙ rw agree refl in
    let none : length cs - n ≡ 0 = omega (arith, all) in
    let nothing : kept ≡ [] = is ∙ ap (λ k. take k cs) none in
    ap (λ l. cond (b && eqb (length l) 0) [] (c ∷ l)) nothing ∙ only b c cs m same)
    (cases_lt n (length cs))
  where
    never : (b : Bool) (c : ℕ) (kept : List ℕ) → cond (b && false) [] (c ∷ kept) ≡ c ∷ kept
    never true c kept = refl
    never false c kept = refl

    only : (b : Bool) (c : ℕ) (cs : List ℕ) (m : ℕ) → m ≡ length cs + cond b 1 0 → cond (b && true) [] (c ∷ []) ≡ take (suc (length cs) - m) (c ∷ cs)
    only true c cs m e = let none : suc (length cs) - m ≡ 0 = omega (arith, e) in ap (λ k. take k (c ∷ cs)) (sym none)
    only false c cs m e = let one : suc (length cs) - m ≡ 1 = omega (arith, e) in ap (λ k. take k (c ∷ cs)) (sym one)

back_is : (cs : List ℕ) → drop_trailing_whitespace cs ≡ take (length cs - suffix_len is_whitespace cs) cs
back_is [] = refl
back_is (c ∷ cs) =
    back_step (is_whitespace c) c cs (drop_trailing_whitespace cs) (suffix_len is_whitespace cs) (suffix_len is_whitespace (c ∷ cs))
    (suffix_len-le-length is_whitespace cs) (back_is cs) (suffix_before c cs)

-- the white space at the end of what follows a front
suffix_after : (head tail : List ℕ) → length tail - suffix_len is_whitespace tail ≡ length (head ++ tail) - suffix_len is_whitespace (head ++ tail) - length head
suffix_after head tail =
    let turned : suffix_len is_whitespace (head ++ tail) ≡ cond (eqb (suffix_len is_whitespace tail) (length tail)) (length tail + suffix_len is_whitespace head) (suffix_len is_whitespace tail) =
    ap (prefix_len is_whitespace) (reverse-append head tail) ∙ prefix_len-append is_whitespace (reverse tail) (reverse head)
    ∙ ap (λ n. cond (eqb (suffix_len is_whitespace tail) n) (n + suffix_len is_whitespace head) (suffix_len is_whitespace tail)) (length-reverse tail) in
    let long : length (head ++ tail) ≡ length head + length tail = length-append head tail in
    ⊎_elim
    (λ all. let same : suffix_len is_whitespace (head ++ tail) ≡ length tail + suffix_len is_whitespace head = turned ∙ rw all.0 refl in omega (arith, all.1, same, long))
    (λ some. let same : suffix_len is_whitespace (head ++ tail) ≡ suffix_len is_whitespace tail = turned ∙ rw some.0 refl in omega (arith, same, long))
    (eqb_tells (suffix_len is_whitespace tail) (length tail))

-- the two walks of std leave the part between the longest ends
pub trimmed_is : (cs : List ℕ) → drop_trailing_whitespace (skip_leading_whitespace cs) ≡ trimmed cs
trimmed_is cs =
    let n : ℕ = prefix_len is_whitespace cs in
    let head : length (take n cs) ≡ n = length-prefix_len is_whitespace cs in
    let whole : take n cs ++ drop n cs ≡ cs = take-append-drop n cs in
    let left : length (drop n cs) - suffix_len is_whitespace (drop n cs) ≡ length cs - suffix_len is_whitespace cs - n =
    suffix_after (take n cs) (drop n cs) ∙ ap (λ l. length l - suffix_len is_whitespace l - length (take n cs)) whole ∙ ap (λ k. length cs - suffix_len is_whitespace cs - k) head in
    ap drop_trailing_whitespace (front_is cs) ∙ back_is (drop n cs) ∙ ap (λ k. take k (drop n cs)) left
    ∙ ap (λ k. take (length cs - suffix_len is_whitespace cs - k) (drop k cs)) (prefix_agree cs)
    ∙ ap (λ k. take (length cs - k - prefix_len is_white_space cs) (drop (prefix_len is_white_space cs) cs)) (prefix_agree (reverse cs))

scalars_skipped : (cs : List ℕ) → all_scalars cs ≡ true → all_scalars (skip_leading_whitespace cs) ≡ true
scalars_skipped [] e = refl
scalars_skipped (c ∷ cs) e = ⊎_elim
    (λ is. rw is (scalars_skipped cs (and_parts (scalar c) (all_scalars cs) e).1))
    (λ is. rw is e)
    (cases_Bool (is_whitespace c))

scalars_kept : (cs : List ℕ) → all_scalars cs ≡ true → all_scalars (drop_trailing_whitespace cs) ≡ true
scalars_kept [] e = refl
scalars_kept (c ∷ cs) e = ⊎_elim
    (λ is. rw is refl)
    (λ is. rw is (and_from (scalar c) (all_scalars (drop_trailing_whitespace cs)) (and_parts (scalar c) (all_scalars cs) e).0 (scalars_kept cs (and_parts (scalar c) (all_scalars cs) e).1)))
    (cases_Bool (is_whitespace c && eqb (length (drop_trailing_whitespace cs)) 0))

-- what std's `trim` gives
pub trim_chars : (t : List ℕ) → IsUtf8 t → chars (trim t) ≡ trimmed (chars t)
unfolding trim_start trim_end
trim_chars t u =
    let known = scalars-chars t u in
    let begun = scalars_skipped (chars t) known in
    chars-encodes (drop_trailing_whitespace (chars (encode_utf8_all (skip_leading_whitespace (chars t)))))
    (scalars_kept (chars (encode_utf8_all (skip_leading_whitespace (chars t)))) (ap all_scalars (chars-encodes (skip_leading_whitespace (chars t)) begun) ∙ begun))
    ∙ ap drop_trailing_whitespace (chars-encodes (skip_leading_whitespace (chars t)) begun)
    ∙ trimmed_is (chars t)

-- a text that begins with no white space keeps its beginning
begins : (cs : List ℕ) → skip_leading_whitespace (drop_trailing_whitespace (skip_leading_whitespace cs)) ≡ drop_trailing_whitespace (skip_leading_whitespace cs)
begins [] = refl
begins (c ∷ cs) = ⊎_elim
    (λ is. rw is (begins cs))
    (λ other. rw other (rw other (rw other refl)))
    (cases_Bool (is_whitespace c))

ends : (cs : List ℕ) → drop_trailing_whitespace (drop_trailing_whitespace cs) ≡ drop_trailing_whitespace cs
ends [] = refl
ends (c ∷ cs) = ⊎_elim
    (λ is. rw is refl)
    (λ stays. rw stays (rw (ends cs) (rw stays refl)))
    (cases_Bool (is_whitespace c && eqb (length (drop_trailing_whitespace cs)) 0))

-- trimmed twice is once
pub trimmed_twice : (cs : List ℕ) → trimmed (trimmed cs) ≡ trimmed cs
trimmed_twice cs =
    sym (trimmed_is (trimmed cs)) ∙ ap (λ l. drop_trailing_whitespace (skip_leading_whitespace l)) (sym (trimmed_is cs))
    ∙ ap drop_trailing_whitespace (begins cs) ∙ ends (skip_leading_whitespace cs) ∙ trimmed_is cs

-- a text made of what std's `trim` gives
pub view_of_trim : {E : Type 0} (r : Result Text E) (t kept : List ℕ) → IsUtf8 t → kept ≡ trim t → IfOk r (λ s. string_bytes s ≡ kept) → IfOk r (λ s. chars (string_bytes s) ≡ trimmed (chars t))
view_of_trim (Ok s) t kept u is made = ap chars (made ∙ is) ∙ trim_chars t u
view_of_trim (Err e) t kept u is made = tt

-- trimmed again, such a text stays
pub trimmed_stays : {E : Type 0} (r : Result Text E) (t : List ℕ) → IfOk r (λ s. chars (string_bytes s) ≡ trimmed (chars t)) → IfOk r (λ s. trimmed (chars (string_bytes s)) ≡ chars (string_bytes s))
trimmed_stays (Ok s) t view = ap trimmed view ∙ trimmed_twice (chars t) ∙ sym view
trimmed_stays (Err e) t view = tt

-- what is left of a list and is as long as it is all of it
all_of_length : (l : List ℕ) (m n : ℕ) → length (take n (drop m l)) ≡ length l → take n (drop m l) ≡ l
all_of_length [] m n e = nil_from_length (take n (drop m [])) e
all_of_length (c ∷ l) m n e =
    let long = length-take n (drop m (c ∷ l)) ∙ ap (min n) (length-drop m (c ∷ l)) in
    let none : m ≡ 0 = omega (arith, long, e) in
    let whole : length (c ∷ l) ≤ n = omega (arith, long, e) in
    ap (λ k. take n (drop k (c ∷ l))) none ∙ take_all n (c ∷ l) whole

-- a text that std's `trim` leaves as long as it was is the view of itself
pub trim_of_length : (t kept : List ℕ) → IsUtf8 t → IsTrim t kept → kept ≡ trim t → length kept ≡ length t → chars t ≡ trimmed (chars t)
trim_of_length t kept u part is long =
    let same : kept ≡ t = part.2 ∙ all_of_length t part.0 part.1 (ap length (sym part.2) ∙ long) in
    ap chars (sym same ∙ is) ∙ trim_chars t u

-- a copy of what is left of it
pub trim_of_copy : (t kept : List ℕ) (s : Text) → IsUtf8 t → kept ≡ trim t → string_bytes s ≡ kept → chars (string_bytes s) ≡ trimmed (chars t)
trim_of_copy t kept s u is made = ap chars (made ∙ is) ∙ trim_chars t u

pub ruleset copy_of_trim = (trim_of_length, trim_of_copy)
