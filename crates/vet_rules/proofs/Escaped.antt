-- The characters of a text as JSON writes them.
use Rattle.std.proofs.Common.{◌≡◌, ℕ, suc, ◌<◌, ◌≤◌, ◌/◌, ◌%◌, codes, List, [], ◌∷◌, ◌++◌, length, get_or, inl, inr, refl, sym, ap, ap₂, ◌∙◌, arith, append-nil}
use Rattle.std.specs.List.{flat_map}
use Rattle.std.specs.Str.{IsUtf8, chars, encode_utf8_all}
use Rattle.std.specs.Char.{encode_utf8}
use Rattle.std.proofs.lemmas.Bool.{cases_lt}
use Rattle.std.proofs.lemmas.Str.{encode_ascii, inside_one, encodes-chars}
use Rattle.std.proofs.lemmas.List.Concat.{flat_map-append}
use Rattle.std.specs.Char.{digit_char}
use Rattle.std.proofs.lemmas.Bool.{ne_eqb, lt-ltb}
use Rattle.json.specs.Print.{escape, escape_byte}
use Rattle.json.proofs.Printed.Strings.{escape_byte_plain}

escape_high : (bytes : List ℕ) → ((k : ℕ) → k < length bytes → 128 ≤ get_or bytes k 0) → escape bytes ≡ bytes
escape_high [] h = refl
escape_high (b ∷ bytes) h =
    let high : 128 ≤ b = h 0 (omega arith) in
    ap₂ (λ (x y : List ℕ). x ++ y) (escape_byte_plain b (λ e. omega arith) (λ e. omega arith) (omega arith)) (escape_high bytes (λ k below. h (suc k) (omega arith)))

-- a character with no escape
pub plain_character : (c : ℕ) → 32 ≤ c → (c ≡ 34 → ⊥) → (c ≡ 92 → ⊥) → escape (encode_utf8 c) ≡ encode_utf8 c
plain_character c low quote backslash = elim (cases_lt c 128) [
  | inl small ↦ rw (encode_ascii c small) (append-nil (escape_byte c) ∙ escape_byte_plain c quote backslash low)
  | inr big ↦
      escape_high (encode_utf8 c) (λ k below. elim (cases_lt (get_or (encode_utf8 c) k 0) 128) [
        | inl under ↦ absurd (omega (arith, inside_one c [] (encode_utf8 c) k (sym (append-nil _)) below under))
        | inr h ↦ h
      ])
]

-- the escapes that have a letter
pub quote_escaped : escape (encode_utf8 34) ≡ codes "\\\""
unfolding escape_byte encode_utf8
quote_escaped = refl

pub backslash_escaped : escape (encode_utf8 92) ≡ codes "\\\\"
unfolding escape_byte encode_utf8
backslash_escaped = refl

pub backspace_escaped : escape (encode_utf8 8) ≡ codes "\\b"
unfolding escape_byte encode_utf8
backspace_escaped = refl

pub form_feed_escaped : escape (encode_utf8 12) ≡ codes "\\f"
unfolding escape_byte encode_utf8
form_feed_escaped = refl

pub line_feed_escaped : escape (encode_utf8 10) ≡ codes "\\n"
unfolding escape_byte encode_utf8
line_feed_escaped = refl

pub carriage_return_escaped : escape (encode_utf8 13) ≡ codes "\\r"
unfolding escape_byte encode_utf8
carriage_return_escaped = refl

pub tab_escaped : escape (encode_utf8 9) ≡ codes "\\t"
unfolding escape_byte encode_utf8
tab_escaped = refl

control_byte : (x : ℕ) → x < 32 → (x ≡ 8 → ⊥) → (x ≡ 12 → ⊥) → (x ≡ 10 → ⊥) → (x ≡ 13 → ⊥) → (x ≡ 9 → ⊥) → escape_byte x ≡ 92 ∷ 117 ∷ 48 ∷ 48 ∷ digit_char (x / 16) ∷ digit_char (x % 16) ∷ []
unfolding escape_byte
control_byte x low b f n r t =
    rw (ne_eqb x 34 (λ e. omega arith), ne_eqb x 92 (λ e. omega arith), ne_eqb x 8 b, ne_eqb x 12 f, ne_eqb x 10 n, ne_eqb x 13 r, ne_eqb x 9 t, lt-ltb x 32 low) refl

-- a control character whose escape has none
pub control_character : (c : ℕ) → c < 32 → (c ≡ 8 → ⊥) → (c ≡ 12 → ⊥) → (c ≡ 10 → ⊥) → (c ≡ 13 → ⊥) → (c ≡ 9 → ⊥) → escape (encode_utf8 c) ≡ 92 ∷ 117 ∷ 48 ∷ 48 ∷ digit_char (c / 16) ∷ digit_char (c % 16) ∷ []
control_character c low b f n r t = rw (encode_ascii c (omega arith)) (append-nil (escape_byte c) ∙ control_byte c low b f n r t)

each_escaped : (cs : List ℕ) → flat_map (λ (c : ℕ). escape (encode_utf8 c)) cs ≡ escape (encode_utf8_all cs)
each_escaped [] = refl
each_escaped (c ∷ cs) = ap (λ (w : List ℕ). escape (encode_utf8 c) ++ w) (each_escaped cs) ∙ sym (flat_map-append escape_byte (encode_utf8 c) (encode_utf8_all cs))

pub all_escaped : (text : List ℕ) → IsUtf8 text → flat_map (λ (c : ℕ). escape (encode_utf8 c)) (chars text) ≡ escape text
all_escaped text u = each_escaped (chars text) ∙ ap escape (encodes-chars text u)
