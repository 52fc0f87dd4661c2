-- What stands on a line of the input.
use Rattle.std.specs.Prelude.{◌==◌, ◌||◌, nat_eq, nat_lt, ℕ, List, [], ◌++◌, Bool, false, not}
use Rattle.std.specs.Prelude.{Option, Some, None, if◌then◌else◌, is_some, length, map, codes}
use Rattle.std.specs.Prelude.{decimal}
use Rattle.std.specs.List.{list_all, ends_with}
use Rattle.std.specs.Str.{is_utf8}
use Rattle.serde_json.specs.Data.{Data}
use Rattle.serde_json.specs.Read.{read}
use Rattle.streams.specs.Lines.{ended_lines}

-- the record that stands on a line, if one does: text that JSON reads
abbrev pub record_on : List ℕ → Option Data
record_on line = if is_utf8 line then read line else None

-- white space, as JSON has it
abbrev pub is_white : ℕ → Bool
is_white byte = byte == 32 || byte == 9 || byte == 10 || byte == 13

-- nothing but white space stands on the line
abbrev pub is_blank : List ℕ → Bool
is_blank line = list_all is_white line

-- what ends a line: a line feed where it has none
abbrev pub line_end : List ℕ → List ℕ
line_end line = if ends_with nat_eq line (codes "\n") then [] else codes "\n"

-- the line with its line feed
abbrev pub ended : List ℕ → List ℕ
ended line = line ++ line_end line

-- what is taken of a line: nothing of one that has more bytes than the limit
abbrev pub taken_of : ℕ → List ℕ → Option (List ℕ)
taken_of limit line = if nat_lt limit (length line) then None else Some line

-- what is taken of the lines of an input
abbrev pub taken_lines : ℕ → List ℕ → List (Option (List ℕ))
taken_lines limit bytes = map (taken_of limit) (ended_lines bytes)

-- why no record is read of a line that has more bytes than the limit
abbrev pub too_long_text : ℕ → List ℕ
too_long_text limit = codes "longer than " ++ (decimal limit ++ codes " bytes")

-- the record on what is taken of a line
abbrev pub record_taken : Option (List ℕ) → Option Data
record_taken None = None
record_taken (Some line) = record_on line

abbrev pub is_blank_taken : Option (List ℕ) → Bool
is_blank_taken None = false
is_blank_taken (Some line) = is_blank line

-- something stands on the line that is no record
abbrev pub is_unreadable : Option (List ℕ) → Bool
is_unreadable taken = not (is_some (record_taken taken) || is_blank_taken taken)
