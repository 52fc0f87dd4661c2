-- The lines that GitHub shows beside a file: commands of its workflows.
use Rattle.std.specs.Prelude.{◌==◌, ◌-◌, ◌++◌, ℕ, List, [], ◌∷◌, Option, Some, None, if◌then◌else◌}
use Rattle.std.specs.Prelude.{codes, decimal, flat_map, length, take, unwrap_or}
use Rattle.std.specs.Str.{bytes_eq}
use Rattle.predicates_core.specs.Tree.{Tree}
use Rattle.predicates_core.specs.Describe.{CaseNode}
use Rattle.vet_run.specs.declared.input_format.InputFormat.{InputFormat}
use Rattle.vet_run.specs.declared.input_format.InputFormat.TheVariants.{JsonLines, Json}

-- a byte of a message
abbrev pub message_byte : ℕ → List ℕ
message_byte byte =
    if byte == 37 then codes "%25"
    else (if byte == 13 then codes "%0D"
    else (if byte == 10 then codes "%0A" else byte ∷ []))

-- a byte of a property, in which `:` and `,` have a meaning too
abbrev pub property_byte : ℕ → List ℕ
property_byte byte =
    if byte == 58 then codes "%3A"
    else (if byte == 44 then codes "%2C" else message_byte byte)

abbrev pub message_text : List ℕ → List ℕ
message_text text = flat_map message_byte text

abbrev pub property_text : List ℕ → List ℕ
property_text text = flat_map property_byte text

abbrev pub without_last : List ℕ → List ℕ
without_last text = take (length text - 1) text

-- the line on which the record of this number stands: where records stand one behind another, it is
-- not known
abbrev pub line_of : InputFormat → ℕ → Option ℕ
line_of JsonLines number = Some number
line_of Json number = None

abbrev pub line_text : Option ℕ → List ℕ
line_text None = []
line_text (Some line) = codes ",line=" ++ decimal line

-- the file of this name, where the input is one: `-` is standard input
abbrev pub file_of : Option (List ℕ) → Option (List ℕ)
file_of None = None
file_of (Some name) = if bytes_eq name (codes "-") then None else Some name

-- where a record stands, where the input is a file
abbrev pub position_text : Option (List ℕ) → Option ℕ → List ℕ
position_text None line = []
position_text (Some name) line =
    codes "file=" ++ (property_text name ++ (line_text line ++ codes ","))

-- what the case is of: a rule's name
abbrev pub title : Tree CaseNode → List ℕ
title c = unwrap_or c.root.text []

-- what stands before a case's lines: what heads the record, but nothing where that is only the
-- place, which the position says
abbrev pub opening : Option (List ℕ) → Option ℕ → Option (List ℕ) → List ℕ → List ℕ
opening None line id head = head ++ codes ": false\n"
opening (Some name) None id head = head ++ codes ": false\n"
opening (Some name) (Some line) None head = []
opening (Some name) (Some line) (Some path) head = head ++ codes ": false\n"

-- the line with this title and this message, with the message's last line feed left out
abbrev pub error_line : Option (List ℕ) → Option ℕ → List ℕ → List ℕ → List ℕ
error_line source line title message =
    codes "::error " ++ (position_text source line ++ (codes "title=" ++ (property_text title
    ++ (codes "::" ++ (message_text (without_last message) ++ codes "\n")))))
