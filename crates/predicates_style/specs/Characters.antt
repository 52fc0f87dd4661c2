-- How the characters of a text are written.
use Rattle.std.specs.Prelude.{ℕ, List, [], ◌∷◌, ◌++◌, ◌==◌, ◌&&◌, ◌||◌, Bool, true, false}
use Rattle.std.specs.Prelude.{Option, Some}
use Rattle.std.specs.Prelude.{None, take, flat_map, codes, encode_utf8_all, if◌then◌else◌}
use Rattle.std.specs.Str.{chars}
use Rattle.std.specs.Char.{is_control}
use Rattle.std.specs.Fmt.{digits}
use Rattle.std.specs.Int.{is_in_range}

-- what sets the direction of writing: the Arabic letter mark, the marks, embeddings, overrides and
-- isolates
abbrev pub is_bidi_control : ℕ → Bool
is_bidi_control c = c == 0x61C || is_in_range 0x200E 0x200F c || is_in_range 0x202A 0x202E c
    || is_in_range 0x2066 0x2069 c

-- the separators of lines and of paragraphs
abbrev pub is_separator : ℕ → Bool
is_separator c = is_in_range 0x2028 0x2029 c

-- the byte order mark, which elsewhere is a space without width
abbrev pub is_byte_order_mark : ℕ → Bool
is_byte_order_mark c = c == 0xFEFF

-- what moves, hides or turns what is printed around it
abbrev pub is_escaped : ℕ → Bool
is_escaped c = is_control c || is_bidi_control c || is_separator c || is_byte_order_mark c

-- a character as Rust escapes it: `\n`, `\r`, `\t`, or its code in hexadecimal digits
abbrev pub escape : ℕ → List ℕ
escape c =
    if c == 10 then codes "\\n" else if c == 13 then codes "\\r" else if c == 9 then codes "\\t"
    else codes "\\u{" ++ digits 16 false c ++ codes "}"

-- such a character escaped, where escapes are wanted; any other as it is
abbrev pub written_character : Bool → ℕ → List ℕ
written_character escapes c = if escapes && is_escaped c then escape c else encode_utf8_all
    (c ∷ [])

abbrev pub written_characters : Bool → List ℕ → List ℕ
written_characters escapes cs = flat_map (written_character escapes) cs

-- a text, or no more than its first characters
abbrev pub written_text : Bool → Option ℕ → List ℕ → List ℕ
written_text escapes None text = if escapes then written_characters true (chars text) else text
written_text escapes (Some most) text = written_characters escapes (take most (chars text))
