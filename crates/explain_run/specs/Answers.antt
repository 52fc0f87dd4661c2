-- What is written for one line.
use Rattle.std.specs.Prelude.{◌≡◌, ℕ, ℤ, Bool, List, ◌++◌, Option, Some, codes, decimal}
use Rattle.std.specs.Fmt.{signed_decimal}
use Rattle.std.specs.Io.BufRead.{strip_last}
use Rattle.std.specs.Ordering.{int_cmp, is_ge, is_le}
use Rattle.predicates_core.specs.Label.{plain, showing}
use Rattle.predicates_core.specs.declared.custom.join.Operator.TheVariants.{And}
use Rattle.predicates_core.specs.Formula.{Formula, Leaf, pair}
use Rattle.predicates_core.specs.Combined.{infix_text, sign}
use Rattle.predicates_item.specs.Comparison.{comparison_text}
use Rattle.explain_run.specs.Blocks.{IsBlock}
use Rattle.explain_run.specs.Number.{Reads}

-- a line without one carriage return at its end
abbrev pub without_return : List ℕ → List ℕ
without_return line = strip_last 13 line

-- a line that is a number
abbrev pub IsNumber : List ℕ → Type 0
IsNumber line = (n : ℤ) × Reads (without_return line) n

abbrev pub no_number : ℕ → List ℕ
no_number number = codes "line " ++ (decimal number ++ codes ": not a number\n")

-- what is written for the line of this number: the block of the number on it, under that number as
-- the label, or that it is none
pub data IsNumberAnswer (formula_of : ℤ → Formula) (number : ℕ) (line written : List ℕ) : Type 0
  where
    item : (n : ℤ) → Reads (without_return line) n
        → IsBlock (signed_decimal n) (formula_of n) written
        → IsNumberAnswer formula_of number line written
    no_item : ((n : ℤ) → ¬ (Reads (without_return line) n)) → written ≡ no_number number
        → IsNumberAnswer formula_of number line written

-- what a comparison with a number prints
abbrev pub number_text : List ℕ → ℤ → Option (List ℕ)
number_text symbol constant = comparison_text symbol (Some (signed_decimal constant))

-- a comparison of n with a number, which shows n
abbrev pub comparison : List ℕ → ℤ → ℤ → Bool → Formula
comparison symbol constant n holds =
    Leaf (showing (number_text symbol constant) (codes "var") (Some (signed_decimal n))) holds

-- the formula of `ge(lo).and(le(hi))` on n
abbrev pub between_formula : ℤ → ℤ → ℤ → Formula
between_formula lo hi n =
    pair And
    (plain (infix_text (sign And) (number_text (codes ">=") lo) (number_text (codes "<=") hi)))
    (comparison (codes ">=") lo n (is_ge (int_cmp n lo)))
    (comparison (codes "<=") hi n (is_le (int_cmp n hi)))
