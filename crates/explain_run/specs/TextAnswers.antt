-- What is written for one line of text.
use Rattle.std.specs.Prelude.{◌≡◌, ℕ, List, ◌++◌, codes, decimal, string_bytes}
use Rattle.std.specs.Str.{IsUtf8}
use Rattle.predicates_core.specs.Text.{Text}
use Rattle.predicates_core.specs.Formula.{Formula}
use Rattle.explain_run.specs.Blocks.{HasBlocks}

-- the label of the line of this number
abbrev pub line_label : ℕ → List ℕ
line_label number = codes "line " ++ decimal number

abbrev pub no_text : ℕ → List ℕ
no_text number = codes "line " ++ (decimal number ++ codes ": not UTF-8\n")

-- what is written for the line of this number: a block of each formula that is had on a text with
-- its bytes, or that it is no text
pub data IsTextAnswer (has : Text → Formula → Type 0) (number : ℕ) (line written : List ℕ) : Type 0
  where
    text : (item : Text) → string_bytes item ≡ line
        → HasBlocks (has item) (line_label number) written
        → IsTextAnswer has number line written
    other : ¬ (IsUtf8 line) → written ≡ no_text number → IsTextAnswer has number line written
