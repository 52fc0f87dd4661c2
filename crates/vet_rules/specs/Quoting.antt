-- Bytes as a message quotes them.
use Rattle.std.specs.Prelude.{◌≡◌, ℕ, zero, suc, ◌/◌, ◌%◌, ◌==◌, Bool, false, List, [], ◌∷◌}
use Rattle.std.specs.Prelude.{◌++◌, map, length, take, drop, chars, encode_utf8_all, Option, Some}
use Rattle.std.specs.Prelude.{None, Ok, codes, if◌then◌else◌}
use Rattle.std.specs.List.{list_any}
use Rattle.std.specs.Char.{encode_utf8}
use Rattle.std.specs.Char.Escape.{escape_default}
use Rattle.std.specs.declared.fmt.Formatter.{Formatter}
use Rattle.std.specs.Fmt.{DisplaysOnOk, digit_glyph}
use Rattle.std.specs.Str.Lossy.{utf8_valid_len, utf8_invalid_len}
use Rattle.vet_rules.specs.Lexemes.{is_between}

-- The first and the last of characters that are not quoted as they are: control characters, white
-- space but the space, what is invisible or turns the text around it, the blocks of marks that stand
-- on the character before them, private use and no characters.
abbrev pub unseen : List (ℕ × ℕ)
unseen = (0, 0x1f) ∷ (0x7f, 0xa0) ∷ (0xad, 0xad) ∷ (0x300, 0x36f) ∷ (0x61c, 0x61c)
    ∷ (0x115f, 0x1160) ∷ (0x1680, 0x1680) ∷ (0x17b4, 0x17b5) ∷ (0x180b, 0x180f)
    ∷ (0x1ab0, 0x1aff) ∷ (0x1dc0, 0x1dff) ∷ (0x2000, 0x200f) ∷ (0x2028, 0x202f)
    ∷ (0x205f, 0x206f) ∷ (0x20d0, 0x20ff) ∷ (0x3000, 0x3000) ∷ (0x3164, 0x3164)
    ∷ (0xe000, 0xf8ff) ∷ (0xfe00, 0xfe0f) ∷ (0xfe20, 0xfe2f) ∷ (0xfeff, 0xfeff)
    ∷ (0xffa0, 0xffa0) ∷ (0xfff0, 0xfffb) ∷ (0xfffe, 0xffff) ∷ (0x1bca0, 0x1bca3)
    ∷ (0x1d173, 0x1d17a) ∷ (0xe0000, 0x10ffff) ∷ []

abbrev pub is_in : List (ℕ × ℕ) → ℕ → Bool
is_in ranges c = list_any (λ r. is_between r.0 r.1 c) ranges

unfoldable pub is_unseen : ℕ → Bool
is_unseen c = is_in unseen c

-- with a letter, or as `\u{..}`
abbrev pub escape_text : ℕ → List ℕ
escape_text c = if c == 0 then codes "\\0" else encode_utf8_all (escape_default c)

abbrev pub character_text : ℕ → List ℕ
character_text c = if is_unseen c then escape_text c else encode_utf8 c

-- a byte that is no part of a character
abbrev pub byte_text : ℕ → List ℕ
byte_text b = codes "\\x" ++ (digit_glyph false (b / 16) ∷ digit_glyph false (b % 16) ∷ [])

-- the characters of a text, and the bytes behind it that are no part of one
abbrev pub chunk_texts : List ℕ → List ℕ → List (List ℕ)
chunk_texts text others = map character_text (chars text) ++ map byte_text others

-- the bytes behind the longest text at the front
abbrev pub behind_text : List ℕ → List ℕ
behind_text bytes = drop (utf8_valid_len bytes) bytes

-- all characters, and all bytes that are no part of one, in at most so many chunks
abbrev pub texts_within : ℕ → List ℕ → List (List ℕ)
texts_within zero bytes = []
texts_within (suc k) [] = []
texts_within (suc k) (b ∷ bytes) =
    let text = take (utf8_valid_len (b ∷ bytes)) (b ∷ bytes) in
    let others = behind_text (b ∷ bytes) in
    chunk_texts text (take (utf8_invalid_len others) others)
    ++ texts_within k (drop (utf8_invalid_len others) others)

-- these behind one another, at most so many of them, and `...` for what is cut
abbrev pub first_texts : ℕ → List (List ℕ) → List ℕ
first_texts most [] = []
first_texts zero (text ∷ texts) = codes "..."
first_texts (suc most) (text ∷ texts) = text ++ first_texts most texts

-- how many more may follow them, none where they are cut
abbrev pub left_behind : ℕ → List (List ℕ) → Option ℕ
left_behind most [] = Some most
left_behind zero (text ∷ texts) = None
left_behind (suc most) (text ∷ texts) = left_behind most texts

-- at most so many of these are written, and so many more may follow
pub record AreShown {W : Type 0} (took : W → List ℕ → W → Type 0) (f : Formatter W) (most : ℕ)
    (texts : List (List ℕ)) (left : Option ℕ) (g : Formatter W) : Type 0 where
  pub left_is : left ≡ left_behind most texts
  pub writes : DisplaysOnOk took f (Ok tt) (Some (first_texts most texts)) g

-- at most 32 characters, or bytes that are no part of one
abbrev pub quoted_text : List ℕ → List ℕ
quoted_text bytes = first_texts 32 (texts_within (length bytes) bytes)
