-- The views that adapters make: a text without white space at its ends, one with even line
-- endings, and one with its case folded.
use Rattle.std.specs.Prelude.{List, [], ◌∷◌, ℕ, ◌-◌, ◌^◌, Bool, ◌&&◌, not, ◌==◌, nat_le, nat_lt}
use Rattle.std.specs.Prelude.{length, map, filter, slice_range, if◌then◌else◌, encode_utf8_all}
use Rattle.std.specs.List.{list_any, prefix_len, suffix_len, zip}
use Rattle.caseless.specs.Caseless.{default_case_fold}

-- the characters with the property White_Space, as ranges
abbrev pub white_space_ranges : List (ℕ × ℕ)
white_space_ranges =
    (0x9, 0xD) ∷ (0x20, 0x20) ∷ (0x85, 0x85) ∷ (0xA0, 0xA0) ∷ (0x1680, 0x1680) ∷ (0x2000, 0x200A)
    ∷ (0x2028, 0x2028) ∷ (0x2029, 0x2029) ∷ (0x202F, 0x202F) ∷ (0x205F, 0x205F) ∷ (0x3000, 0x3000) ∷
    []

abbrev pub is_white_space : ℕ → Bool
is_white_space c = list_any (λ range. nat_le range.0 c && nat_le c range.1) white_space_ranges

-- the text without the longest front and the longest back of white space
abbrev pub trimmed : List ℕ → List ℕ
trimmed t = slice_range t (prefix_len is_white_space t) (length t - suffix_len is_white_space t)

abbrev pub carriage_return : ℕ
carriage_return = 13

abbrev pub line_feed : ℕ
line_feed = 10

-- each character with the one before it; the first has NUL before it
abbrev pub with_previous : List ℕ → List (ℕ × ℕ)
with_previous t = zip (0 ∷ t) t

-- the text without each line feed that stands directly after a carriage return
abbrev pub without_paired_line_feeds : List ℕ → List ℕ
without_paired_line_feeds t =
    map (λ pair. pair.1)
    (filter (λ pair. not (pair.0 == carriage_return && pair.1 == line_feed)) (with_previous t))

-- that text, with each carriage return turned into a line feed
abbrev pub lines_even : List ℕ → List ℕ
lines_even t = map (λ c. if c == carriage_return then line_feed else c)
    (without_paired_line_feeds t)

-- whether a text can have the characters: it has less than 2^63 bytes
abbrev pub fits_text : List ℕ → Bool
fits_text t = nat_lt (length (encode_utf8_all t)) (2 ^ 63)

-- the text after the default case folding of Unicode, or the text itself where no text can have the
-- characters of that
abbrev pub case_folded : List ℕ → List ℕ
case_folded t = if fits_text (default_case_fold t) then default_case_fold t else t
