-- What JSON reads in quotes is UTF-8.
use Rattle.std.proofs.Common.{◌≡◌, ℕ, zero, suc, ◌+◌, ◌*◌, ◌<◌, ◌≤◌, Bool, true, false, cond, List, [], ◌∷◌, ◌++◌, length, get_or, Option, Some, None, inl, inr, refl, sym, ap, ◌∙◌, subst, arith, append_assoc, append-nil, length-append, IsUtf8}
use Rattle.std.specs.Prelude.{◌&&◌, ◌||◌, ◌==◌, nat_lt, option_and_then}
use Rattle.std.specs.Str.{encode_utf8_all}
use Rattle.std.specs.Char.{encode_utf8, is_digit, digit_value}
use Rattle.std.proofs.lemmas.Bool.{cases_lt, ne_eqb, le-ltb, ltb-true, eqb-true, and_parts}
use Rattle.std.proofs.lemmas.Bool.Decides.{nat_tests}
use Rattle.std.proofs.lemmas.Str.{IsUtf8-append, IsUtf8-nil, IsUtf8-encode, IsUtf8-past_char, encode_ascii, inside_one, byte_from_char, length-encode, len_utf8_bounds}
use lib.Utf8.{scalar, scalars, low_scalar}
use Rattle.json.specs.Text.{content, plain, after_backslash, after_u, after_high, prepend, code_unit, short_escape, is_high_surrogate, is_low_surrogate, surrogate_pair}

nothing_prepended : (rest : Option (List ℕ)) → prepend [] rest ≡ rest
nothing_prepended None = refl
nothing_prepended (Some text) = refl

both_prepended : (a b : List ℕ) (rest : Option (List ℕ)) → prepend a (prepend b rest) ≡ prepend (a ++ b) rest
both_prepended a b None = refl
both_prepended a b (Some text) = ap (λ (t : List ℕ). Some t) (sym (append_assoc a b text))

abbrev IsText : Option (List ℕ) → Type 0
IsText None = Unit {0}
IsText (Some text) = IsUtf8 text

text_cond : (b : Bool) (x y : Option (List ℕ)) → IsText x → IsText y → IsText (cond b x y)
text_cond true x y p q = p
text_cond false x y p q = q

text_prepend : (front : List ℕ) (rest : Option (List ℕ)) → IsUtf8 front → IsText rest → IsText (prepend front rest)
text_prepend front None u t = tt
text_prepend front (Some text) u t = IsUtf8-append front text u t

ascii_text : (x : ℕ) → x < 128 → IsUtf8 (x ∷ [])
ascii_text x small = subst IsUtf8 (encode_ascii x small) (IsUtf8-encode x (low_scalar x (omega arith)))

pub past_ascii : (x : ℕ) (xs : List ℕ) → x < 128 → IsUtf8 (x ∷ xs) → IsUtf8 xs
past_ascii x xs small u = IsUtf8-past_char (x ∷ xs) xs x u (rw (encode_ascii x small) refl)

-- a character beyond ASCII, and what follows it
record Longer (text : List ℕ) : Type 0 where
  pub character : ℕ
  pub rest : List ℕ
  pub valid : scalar character ≡ true
  pub is : text ≡ encode_utf8 character ++ rest
  pub big : 128 ≤ character
  pub utf8 : IsUtf8 rest

begins_longer : (x : ℕ) (xs : List ℕ) → IsUtf8 (x ∷ xs) → 128 ≤ x → Longer (x ∷ xs)
begins_longer x xs ([], (ok, e)) high = absurd cc
begins_longer x xs (c ∷ cs, (ok, e)) high = elim (cases_lt c 128) [
  | inl small ↦ absurd (omega (arith, byte_from_char (x ∷ xs) (encode_utf8_all cs) c (sym e) small))
  | inr big ↦ let p = and_parts (scalar c) (scalars cs) ok in record { character = c; rest = encode_utf8_all cs; valid = p.0; is = sym e; big = big; utf8 = (cs, (p.1, refl)) }
]

shorter_rest : (x : ℕ) (xs : List ℕ) (l : Longer (x ∷ xs)) → length l.rest ≤ length xs
shorter_rest x xs l =
    let whole : suc (length xs) ≡ length (encode_utf8 l.character) + length l.rest = ap length l.is ∙ length-append (encode_utf8 l.character) l.rest in
    let some = (len_utf8_bounds l.character).0 in
    omega (arith, whole, length-encode l.character, some)

high_bytes : (c : ℕ) → 128 ≤ c → (k : ℕ) → k < length (encode_utf8 c) → 128 ≤ get_or (encode_utf8 c) k 0
high_bytes c big k within = elim (cases_lt (get_or (encode_utf8 c) k 0) 128) [
  | inl under ↦ absurd (omega (arith, inside_one c [] (encode_utf8 c) k (sym (append-nil _)) within under))
  | inr h ↦ h
]

high_copied : (xs rest : List ℕ) → ((k : ℕ) → k < length xs → 128 ≤ get_or xs k 0) → content plain (xs ++ rest) ≡ prepend xs (content plain rest)
unfolding content
high_copied [] rest h = sym (nothing_prepended (content plain rest))
high_copied (x ∷ xs) rest h =
    let high : 128 ≤ x = h 0 (omega arith) in
    rw (ne_eqb x 34 (λ e. omega arith), ne_eqb x 92 (λ e. omega arith), le-ltb x 32 (omega arith)) (ap (prepend (x ∷ [])) (high_copied xs rest (λ k within. h (suc k) (omega arith))) ∙ both_prepended (x ∷ []) xs (content plain rest))

-- ---- escapes

abbrev IsSmall : Option ℕ → Type 0
IsSmall None = Unit {0}
IsSmall (Some c) = c < 128

small_by : (x : ℕ) (a b c d e f : Bool) → x < 128 → IsSmall (cond a (Some x) (cond b (Some 8) (cond c (Some 12) (cond d (Some 10) (cond e (Some 13) (cond f (Some 9) None))))))
small_by x true b c d e f h = h
small_by x false true c d e f h = omega arith
small_by x false false true d e f h = omega arith
small_by x false false false true e f h = omega arith
small_by x false false false false true f h = omega arith
small_by x false false false false false true h = omega arith
small_by x false false false false false false h = tt

escape_small : (x : ℕ) → x < 128 → IsSmall (short_escape x)
unfolding short_escape
escape_small x h = small_by x (x == 34 || x == 92 || x == 47) (x == 98) (x == 102) (x == 110) (x == 114) (x == 116) h

no_escape : (x : ℕ) → 128 ≤ x → short_escape x ≡ None
unfolding short_escape
no_escape x h =
    rw (ne_eqb x 34 (λ e. omega arith), ne_eqb x 92 (λ e. omega arith), ne_eqb x 47 (λ e. omega arith), ne_eqb x 98 (λ e. omega arith), ne_eqb x 102 (λ e. omega arith), ne_eqb x 110 (λ e. omega arith), ne_eqb x 114 (λ e. omega arith), ne_eqb x 116 (λ e. omega arith)) refl

escaped_text : (o : Option ℕ) (rest : Option (List ℕ)) → IsSmall o → IsText rest → IsText (option_and_then (λ c. prepend (c ∷ []) rest) o)
escaped_text None rest s t = tt
escaped_text (Some c) rest s t = text_prepend (c ∷ []) rest (ascii_text c s) t

digit_small : (a : ℕ) → is_digit a 16 ≡ true → a < 128
digit_small a h = elim (cases_lt a 128) [
  | inl small ↦ small
  | inr big ↦ absurd (omega (arith, ltb-true (digit_value a) 16 h, digit_high a big))
]
  where
    digit_high : (x : ℕ) → 128 ≤ x → digit_value x ≡ 36
    digit_high x big = rw (le-ltb x 48 (omega arith), le-ltb x 58 (omega arith), le-ltb x 65 (omega arith), le-ltb x 91 (omega arith), le-ltb x 97 (omega arith), le-ltb x 123 (omega arith)) refl

-- four digits of a character's number
record AreHex (a b c d : ℕ) : Type 0 where
  pub first : is_digit a 16 ≡ true
  pub second : is_digit b 16 ≡ true
  pub third : is_digit c 16 ≡ true
  pub fourth : is_digit d 16 ≡ true

are_hex : (a b c d : ℕ) → (is_digit a 16 && is_digit b 16 && is_digit c 16 && is_digit d 16) ≡ true → AreHex a b c d
are_hex a b c d h =
    let p = and_parts (is_digit a 16 && is_digit b 16 && is_digit c 16) (is_digit d 16) h in
    let q = and_parts (is_digit a 16 && is_digit b 16) (is_digit c 16) p.0 in
    let r = and_parts (is_digit a 16) (is_digit b 16) q.0 in
    record { first = r.0; second = r.1; third = q.1; fourth = p.1 }

hex_fits : (a b c d : ℕ) → AreHex a b c d → digit_value a * 4096 + digit_value b * 256 + digit_value c * 16 + digit_value d < 65536
hex_fits a b c d h = omega (arith, ltb-true (digit_value a) 16 h.first, ltb-true (digit_value b) 16 h.second, ltb-true (digit_value c) 16 h.third, ltb-true (digit_value d) 16 h.fourth)

past_hex : (a b c d : ℕ) (xs : List ℕ) → AreHex a b c d → IsUtf8 (a ∷ b ∷ c ∷ d ∷ xs) → IsUtf8 xs
past_hex a b c d xs h u = past_ascii d xs (digit_small d h.fourth) (past_ascii c (d ∷ xs) (digit_small c h.third) (past_ascii b (c ∷ d ∷ xs) (digit_small b h.second) (past_ascii a (b ∷ c ∷ d ∷ xs) (digit_small a h.first) u)))

by_unit : (a b c d : ℕ) (made : ℕ → Option (List ℕ)) → (AreHex a b c d → (u : ℕ) → u < 65536 → IsText (made u)) → IsText (option_and_then made (code_unit a b c d))
unfolding code_unit
by_unit a b c d made k = by_condition (is_digit a 16 && is_digit b 16 && is_digit c 16 && is_digit d 16) refl
  where
    by_condition : (t : Bool) → (is_digit a 16 && is_digit b 16 && is_digit c 16 && is_digit d 16) ≡ t → IsText (option_and_then made (cond t (Some (digit_value a * 4096 + digit_value b * 256 + digit_value c * 16 + digit_value d)) None))
    by_condition true e = let h = are_hex a b c d e in k h (digit_value a * 4096 + digit_value b * 256 + digit_value c * 16 + digit_value d) (hex_fits a b c d h)
    by_condition false e = tt

scalar_unit : (u : ℕ) → u < 65536 → is_high_surrogate u ≡ false → is_low_surrogate u ≡ false → scalar u ≡ true
scalar_unit u fits high low = grind (arith, nat_tests)

scalar_pair : (h l : ℕ) → is_high_surrogate h ≡ true → is_low_surrogate l ≡ true → scalar (surrogate_pair h l) ≡ true
scalar_pair h l high low = grind (arith, nat_tests)

by_surrogate : (b : Bool) (x y : Option (List ℕ)) → (b ≡ true → IsText x) → (b ≡ false → IsText y) → IsText (cond b x y)
by_surrogate true x y p q = p refl
by_surrogate false x y p q = q refl

-- ---- the content

mutual
  unfolding content

  plain_text : (n : ℕ) (text : List ℕ) → length text ≤ n → IsUtf8 text → IsText (content plain text)
  plain_text n [] le u = tt
  plain_text zero (x ∷ xs) le u = absurd (omega arith)
  plain_text (suc n) (x ∷ xs) le u = elim (cases_lt x 128) [
    | inl small ↦
        let v = past_ascii x xs small u in
        text_cond (x == 34) (Some []) (cond (x == 92) (content after_backslash xs) (cond (nat_lt x 32) None (prepend (x ∷ []) (content plain xs)))) IsUtf8-nil
        (text_cond (x == 92) (content after_backslash xs) (cond (nat_lt x 32) None (prepend (x ∷ []) (content plain xs))) (escape_text n xs (omega arith) v)
        (text_cond (nat_lt x 32) None (prepend (x ∷ []) (content plain xs)) tt (text_prepend (x ∷ []) (content plain xs) (ascii_text x small) (plain_text n xs (omega arith) v))))
    | inr big ↦
        let l = begins_longer x xs u big in
        subst (λ (t : List ℕ). IsText (content plain t)) (sym l.is)
        (subst IsText (sym (high_copied (encode_utf8 l.character) l.rest (high_bytes l.character l.big)))
        (text_prepend (encode_utf8 l.character) (content plain l.rest) (IsUtf8-encode l.character l.valid) (plain_text n l.rest (omega (arith, shorter_rest x xs l)) l.utf8)))
  ]

  escape_text : (n : ℕ) (text : List ℕ) → length text ≤ n → IsUtf8 text → IsText (content after_backslash text)
  escape_text n [] le u = tt
  escape_text zero (x ∷ xs) le u = absurd (omega arith)
  escape_text (suc n) (x ∷ xs) le u = elim (cases_lt x 128) [
    | inl small ↦
        let v = past_ascii x xs small u in
        text_cond (x == 117) (content after_u xs) (option_and_then (λ c. prepend (c ∷ []) (content plain xs)) (short_escape x)) (unit_text n xs (omega arith) v)
        (escaped_text (short_escape x) (content plain xs) (escape_small x small) (plain_text n xs (omega arith) v))
    | inr big ↦ rw (ne_eqb x 117 (λ e. omega arith), no_escape x big) tt
  ]

  unit_text : (n : ℕ) (text : List ℕ) → length text ≤ n → IsUtf8 text → IsText (content after_u text)
  unit_text n [] le u = tt
  unit_text n (a ∷ []) le u = tt
  unit_text n (a ∷ b ∷ []) le u = tt
  unit_text n (a ∷ b ∷ c ∷ []) le u = tt
  unit_text zero (a ∷ b ∷ c ∷ d ∷ xs) le u = absurd (omega arith)
  unit_text (suc n) (a ∷ b ∷ c ∷ d ∷ xs) le u =
      by_unit a b c d (λ m. cond (is_high_surrogate m) (content (after_high m) xs) (cond (is_low_surrogate m) None (prepend (encode_utf8 m) (content plain xs)))) (λ h m fits.
      let v = past_hex a b c d xs h u in
      by_surrogate (is_high_surrogate m) (content (after_high m) xs) (cond (is_low_surrogate m) None (prepend (encode_utf8 m) (content plain xs))) (λ high. high_text n m xs high (omega arith) v)
      (λ high. by_surrogate (is_low_surrogate m) None (prepend (encode_utf8 m) (content plain xs)) (λ low. tt) (λ low. text_prepend (encode_utf8 m) (content plain xs) (IsUtf8-encode m (scalar_unit m fits high low)) (plain_text n xs (omega arith) v))))

  high_text : (n h : ℕ) (text : List ℕ) → is_high_surrogate h ≡ true → length text ≤ n → IsUtf8 text → IsText (content (after_high h) text)
  high_text n h [] high le u = tt
  high_text n h (s ∷ []) high le u = tt
  high_text n h (s ∷ t ∷ []) high le u = tt
  high_text n h (s ∷ t ∷ a ∷ []) high le u = tt
  high_text n h (s ∷ t ∷ a ∷ b ∷ []) high le u = tt
  high_text n h (s ∷ t ∷ a ∷ b ∷ c ∷ []) high le u = tt
  high_text zero h (s ∷ t ∷ a ∷ b ∷ c ∷ d ∷ xs) high le u = absurd (omega arith)
  high_text (suc n) h (s ∷ t ∷ a ∷ b ∷ c ∷ d ∷ xs) high le u =
      by_surrogate ((s == 92) && (t == 117)) (option_and_then (λ l. cond (is_low_surrogate l) (prepend (encode_utf8 (surrogate_pair h l)) (content plain xs)) None) (code_unit a b c d)) None (λ marked.
      let p = and_parts (s == 92) (t == 117) marked in
      let v = past_ascii t (a ∷ b ∷ c ∷ d ∷ xs) (omega (arith, eqb-true t 117 p.1)) (past_ascii s (t ∷ a ∷ b ∷ c ∷ d ∷ xs) (omega (arith, eqb-true s 92 p.0)) u) in
      by_unit a b c d (λ l. cond (is_low_surrogate l) (prepend (encode_utf8 (surrogate_pair h l)) (content plain xs)) None) (λ hex l fits.
      by_surrogate (is_low_surrogate l) (prepend (encode_utf8 (surrogate_pair h l)) (content plain xs)) None (λ low.
      text_prepend (encode_utf8 (surrogate_pair h l)) (content plain xs) (IsUtf8-encode (surrogate_pair h l) (scalar_pair h l high low)) (plain_text n xs (omega arith) (past_hex a b c d xs hex v))) (λ low. tt))) (λ other. tt)

-- the text up to the closing quote
pub content_text : (text s : List ℕ) → IsUtf8 text → content plain text ≡ Some s → IsUtf8 s
content_text text s u e = subst IsText e (plain_text (length text) text (omega arith) u)
