-- What is told of rules that could not be read.
use Rattle.std.specs.Prelude.{ℕ, ◌==◌, List, [], ◌∷◌, ◌++◌, Option, Some, None, codes, decimal}
use Rattle.std.specs.Prelude.{if◌then◌else◌}
use Rattle.vet_rules.specs.declared.error.Expected.{Expected}
use Rattle.vet_rules.specs.declared.error.Expected.TheVariants as expected
use Rattle.vet_rules.specs.declared.error.Reason.{Reason}
use Rattle.vet_rules.specs.declared.error.Reason.TheVariants as reasons
use Rattle.vet_rules.specs.declared.error.RulesError.{RulesError}
use Rattle.vet_rules.specs.declared.error.RulesError.TheVariants as errors
use Rattle.vet_rules.specs.declared.fault.Fault.{Fault}
use Rattle.vet_rules.specs.declared.hint.Hint.{Hint}
use Rattle.vet_rules.specs.declared.hint.Hint.TheVariants as hints
use Rattle.vet_rules.specs.Grammar.{max_depth}
use Rattle.vet_rules.specs.Quoting.{quoted_text}

abbrev pub expected_text : Expected → List ℕ
expected_text expected.Name = codes "the name of a rule"
expected_text expected.Colon = codes "`:` behind the name of a rule"
expected_text expected.Expression = codes "a path, `not`, `each`, `any`, `at`, `keys` or `(`"
expected_text expected.Whole = codes "a path, `not`, `each`, `any`, `at`, `keys`, `if` or `(`"
expected_text expected.Path = codes "a path"
expected_text expected.Condition =
    codes "an operator, `exists`, `missing`, `is_empty`, `length` or `is`"
expected_text expected.Literal = codes "a literal"
expected_text expected.Operand = codes "a literal or a path"
expected_text expected.Comparison = codes "`==`, `!=`, `<`, `<=`, `>` or `>=`"
expected_text expected.Kind = codes "`text`, `number`, `whole`, `bool`, `array`, `object` or `null`"
expected_text expected.Text = codes "a text in quotes"
expected_text expected.In = codes "`in`"
expected_text expected.List = codes "`[`"
expected_text expected.ListGoesOn = codes "`,` or `]`"
expected_text expected.Least = codes "`least`"
expected_text expected.Count = codes "a whole number from 0 to 2^64 - 1"
expected_text expected.Counted = codes "`of` or a path"
expected_text expected.PartsGoOn = codes "`,`, `)`, `or`, `xor` or `and`"
expected_text expected.Open = codes "`(`"
expected_text expected.Close = codes "`)`, `or`, `xor` or `and`"
expected_text expected.Then = codes "`then`, `or`, `xor` or `and`"
expected_text expected.End = codes "the end of the line, `or`, `xor` or `and`"
expected_text expected.Token = codes "a word, an operator, a path or a literal"
expected_text expected.Number = codes "a number as JSON writes it, in the range of a 64-bit float"
expected_text expected.Escapes = codes "a text as JSON writes it"
expected_text expected.Quote = codes "the quote that ends the text"
expected_text expected.Utf8 = codes "text in UTF-8 without no-break spaces"

abbrev pub reason_text : Reason → List ℕ
reason_text (reasons.Expected e) = codes "expected " ++ expected_text e
reason_text reasons.TooDeep = codes "nested more than " ++ (decimal max_depth ++ codes " deep")
reason_text (reasons.Repeated line) =
    codes "the name stands on line " ++ (decimal line ++ codes " already")

abbrev pub hint_text : Hint → List ℕ
hint_text (hints.Meant word) = codes "did you mean `" ++ (word.now ++ codes "`?")
hint_text (hints.Advice text) = text.now

-- what was found, in words or quoted
abbrev pub found_text : List ℕ → List ℕ
found_text [] = codes "the end of the line"
found_text (b ∷ bytes) =
    if b == 35 then codes "a comment" else codes "`" ++ (quoted_text (b ∷ bytes) ++ codes "`")

-- the place of a fault, before why it is one
abbrev pub place_text : ℕ → ℕ → List ℕ
place_text line column =
    codes "line " ++ (decimal line ++ (codes ", column " ++ (decimal column ++ codes ": ")))

-- why it is one, with what was found
abbrev pub why_text : Reason → List ℕ → List ℕ
why_text (reasons.Expected e) found =
    codes "expected " ++ (expected_text e ++ (codes ", found " ++ found_text found))
why_text reasons.TooDeep found = reason_text reasons.TooDeep
why_text (reasons.Repeated line) found = codes "the name `" ++ (quoted_text found
    ++ (codes "` stands on line " ++ (decimal line ++ codes " already")))

-- what was likely meant, behind a semicolon
abbrev pub meant_text : Option Hint → List ℕ
meant_text None = []
meant_text (Some hint) = codes "; " ++ hint_text hint

abbrev pub fault_text : Fault → List ℕ
fault_text fault = place_text fault.line fault.column
    ++ (why_text fault.reason fault.found.items ++ meant_text fault.hint)

abbrev pub error_text : RulesError → List ℕ
error_text errors.NoMemory = codes "no memory"
error_text (errors.Unreadable fault) = fault_text fault
