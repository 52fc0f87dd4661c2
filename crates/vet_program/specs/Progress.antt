-- How far a run is, and what is shown of it.
use Rattle.std.specs.Prelude.{ℕ, nat_lt, ◌+◌, ◌*◌, ◌-◌, ◌/◌, ◌^◌, ◌==◌, ◌++◌, List, min, max, count_by}
use Rattle.std.specs.Prelude.{Option, Some, None, codes, decimal}
use Rattle.std.specs.Prelude.{if◌then◌else◌}
use Rattle.vet_program.specs.declared.shown.Shown.{Shown}

-- the line feeds among some bytes
abbrev pub line_feeds : List ℕ → ℕ
line_feeds bytes = count_by (λ byte. byte == 10) bytes

-- a count that has grown, as far as 64 bits hold it
abbrev pub grown : ℕ → ℕ → ℕ
grown count more = min (count + more) (2 ^ 64 - 1)

-- how many percent so many bytes are of the whole
abbrev pub share_of : ℕ → ℕ → ℕ
share_of bytes whole = min (bytes * 100 / max whole 1) 100

-- how many there are in a second, if there are so many in these milliseconds
abbrev pub rate_of : ℕ → ℕ → ℕ
rate_of count millis = count * 1000 / max millis 1

-- how many seconds the rest of the whole takes, where so many bytes took these milliseconds
abbrev pub left_of : ℕ → ℕ → ℕ → ℕ
left_of bytes whole millis = (whole - bytes) * millis / (max bytes 1 * 1000)

abbrev pub lines_text : ℕ → List ℕ
lines_text lines = decimal lines ++ (if lines == 1 then codes " line, " else codes " lines, ")

abbrev pub share_text : Option ℕ → List ℕ
share_text None = codes ""
share_text (Some share) = decimal share ++ codes " %, "

-- the time left: in seconds, and from two minutes on in minutes
abbrev pub left_text : Option ℕ → List ℕ
left_text None = codes ""
left_text (Some left) =
    if nat_lt left 120 then codes ", " ++ (decimal left ++ codes " s left")
    else codes ", " ++ (decimal (left / 60) ++ codes " min left")

-- the lines, the share where it is known, the rate, and the time left where it is known
abbrev pub shown_text : Shown → List ℕ
shown_text s =
    lines_text s.lines
    ++ (share_text s.share ++ (decimal s.rate ++ (codes " a second" ++ left_text s.left)))
