-- What the error of a requirement tells.
use Rattle.std.specs.Prelude.{◌≡◌, ℕ, ◌<◌, List, ◌++◌, length, flat_map, false, string_bytes, codes}
use Rattle.predicates_core.specs.Formula.{Formula}
use Rattle.predicates_core.specs.Tree.{Tree}
use Rattle.predicates_core.specs.Describe.{CaseNode}
use Rattle.predicates_core.specs.Lines.{lines}
use Rattle.predicates_core.specs.Shows.{IsCaseOf}
use Rattle.predicates_style.specs.StyledLines.{styled_lines}
use Rattle.predicates_style.specs.declared.style.Style.{Style}
use Rattle.predicates_require.specs.Told.{HasFailures}
use Rattle.predicates_require.specs.Expected.{expected, IsFailure, failure_text}
use Rattle.predicates_require.specs.declared.expectation.Expectation.{Expectation}
use Rattle.predicates_require.specs.declared.failure.Failure.{Failure}
use Rattle.predicates_require.specs.declared.unmet.Unmet.{Unmet}
use Rattle.predicates_require.specs.declared.unmet.Unmet.TheVariants.{Fails, NoMemory}

-- what is put before them, and the lines of a case that explains why the formulas are false
pub record AreReason (before : List ℕ) (F : Formula → Type 0) (bytes : List ℕ) : Type 0 where
  pub case : Tree CaseNode
  pub explains : IsCaseOf F false case
  pub are : bytes ≡ before ++ lines case

abbrev pub TellsWhy : List ℕ → (Formula → Type 0) → Unmet → Type 0
TellsWhy before F (Fails text) = AreReason before F (string_bytes text)
TellsWhy before F NoMemory = Unit {0}

-- the lines, in a style, of a case that explains why the formulas are false
pub record AreStyledReason (style : Style) (F : Formula → Type 0) (bytes : List ℕ) : Type 0 where
  pub case : Tree CaseNode
  pub explains : IsCaseOf F false case
  pub are : bytes ≡ styled_lines style case

abbrev pub TellsStyled : Style → (Formula → Type 0) → Unmet → Type 0
TellsStyled style F (Fails text) = AreStyledReason style F (string_bytes text)
TellsStyled style F NoMemory = Unit {0}

-- what the failures of all expectations that are not met print, in order; there is at least one
pub record AreFailures {Item P : Type 0} (formula : P → Item → Formula → Type 0)
    (expectations : List (Expectation Item P)) (bytes : List ℕ) : Type 0 where
  pub failures : List Failure
  pub are_all : HasFailures (expected formula) (IsFailure formula) expectations failures
  pub some : 0 < length failures
  pub are : bytes ≡ flat_map failure_text failures

abbrev pub TellsAll : {Item P : Type 0} → (P → Item → Formula → Type 0) → List (Expectation Item P)
    → Unmet → Type 0
TellsAll formula expectations (Fails text) = AreFailures formula expectations (string_bytes text)
TellsAll formula expectations NoMemory = Unit {0}

-- what it prints
abbrev pub unmet_text : Unmet → List ℕ
unmet_text (Fails text) = string_bytes text
unmet_text NoMemory = codes "no memory"
