-- What a byte of an input does, by where the reading stands.
use Rattle.std.specs.Prelude.{ℕ, ◌+◌, ◌-◌, ◌^◌, min, nat_lt, Bool, true, false, not, ◌&&◌, ◌||◌}
use Rattle.std.specs.Prelude.{◌==◌, if◌then◌else◌}
use Rattle.streams.specs.declared.records.position.Position.{Position}
use Rattle.streams.specs.declared.records.position.Position.TheVariants.{Outside, First, Member}
use Rattle.streams.specs.declared.records.position.Position.TheVariants.{Value, Text, Escape}
use Rattle.streams.specs.declared.records.step.Step.{Step}

-- ---- bytes

-- white space, as JSON has it
abbrev pub is_white : ℕ → Bool
is_white byte = byte == 32 || byte == 9 || byte == 10 || byte == 13

-- `[` and `{`
abbrev pub is_opening : ℕ → Bool
is_opening byte = byte == 91 || byte == 123

-- `]` and `}`
abbrev pub is_closing : ℕ → Bool
is_closing byte = byte == 93 || byte == 125

-- ---- steps

-- a byte between records
abbrev pub between : Position → Step
between p = record { position = p; is_kept = false; is_end = false }

-- a byte of a record, which goes on
abbrev pub within : Position → Step
within p = record { position = p; is_kept = true; is_end = false }

-- the last byte of a record
abbrev pub last : Position → Step
last p = record { position = p; is_kept = true; is_end = true }

-- the byte behind a record
abbrev pub behind : Position → Step
behind p = record { position = p; is_kept = false; is_end = true }

-- one bracket deeper; deeper than 64 bits count is not told apart
abbrev pub deeper : ℕ → ℕ
deeper depth = min (depth + 1) (2 ^ 64 - 1)

-- in a record that is a member of an array, outside its texts
abbrev pub in_member : ℕ → ℕ → Step
in_member depth byte =
    if byte == 34 then within (Text true depth)
    else (if is_opening byte then within (Value true (deeper depth))
    else (if byte == 44 && depth == 0 then behind Member
    else (if byte == 93 && depth == 0 then behind Outside
    else (if is_closing byte then within (Value true (depth - 1))
    else within (Value true depth)))))

-- in a record that stands alone, outside its texts
abbrev pub in_record : ℕ → ℕ → Step
in_record depth byte =
    if byte == 34 then within (Text false depth)
    else (if is_opening byte then within (Value false (deeper depth))
    else (if is_closing byte
    then (if nat_lt 1 depth then within (Value false (depth - 1)) else last Outside)
    else (if is_white byte && depth == 0 then behind Outside
    else within (Value false depth))))

-- in a record, outside its texts
abbrev pub in_value : Bool → ℕ → ℕ → Step
in_value is_member depth byte = if is_member then in_member depth byte else in_record depth byte

-- in a text of a record
abbrev pub in_text : Bool → ℕ → ℕ → Step
in_text is_member depth byte =
    if byte == 92 then within (Escape is_member depth)
    else (if byte == 34
    then (if not is_member && depth == 0 then last Outside else within (Value is_member depth))
    else within (Text is_member depth))

-- behind the `[` of an array
abbrev pub at_first : ℕ → Step
at_first byte =
    if is_white byte then between First
    else (if byte == 93 then between Outside
    else (if byte == 44 then last Member
    else in_member 0 byte))

-- behind a `,` of an array; a `,` or a `]` there stands for the member that is missing
abbrev pub at_member : ℕ → Step
at_member byte =
    if is_white byte then between Member
    else (if byte == 93 then last Outside
    else (if byte == 44 then last Member
    else in_member 0 byte))

-- in no array and in no record
abbrev pub at_outside : ℕ → Step
at_outside byte =
    if is_white byte then between Outside
    else (if byte == 91 then between First
    else in_record 0 byte)

abbrev pub step_of : Position → ℕ → Step
step_of Outside byte = at_outside byte
step_of First byte = at_first byte
step_of Member byte = at_member byte
step_of (Value is_member depth) byte = in_value is_member depth byte
step_of (Text is_member depth) byte = in_text is_member depth byte
step_of (Escape is_member depth) byte = within (Text is_member depth)
