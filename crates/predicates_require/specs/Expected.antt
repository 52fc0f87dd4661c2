-- How an expectation fails.
use Rattle.std.specs.Prelude.{◌≡◌, ℕ, List, ◌++◌, true, false, codes, string_bytes}
use Rattle.predicates_core.specs.Formula.{Formula, HasTruth}
use Rattle.predicates_core.specs.Lines.{lines}
use Rattle.predicates_core.specs.Shows.{IsCaseOf}
use Rattle.predicates_require.specs.Told.{HoldsInfallibly}
use Rattle.predicates_require.specs.declared.expectation.Expectation.{Expectation}
use Rattle.predicates_require.specs.declared.failure.Failure.{Failure}

-- the formulas that the check has on the item
abbrev pub expected : {Item P : Type 0} → (P → Item → Formula → Type 0) → Expectation Item P
    → Formula
    → Type 0
expected formula expectation = formula expectation.check expectation.item

-- the check holds of the item
abbrev pub IsMet : {Item P : Type 0} → (P → Item → Formula → Type 0) → Expectation Item P → Type 0
IsMet formula expectation = HasTruth (expected formula expectation) true

-- the check is infallible on the item, and has a formula there that is true
abbrev pub IsMetInfallibly : {Item P : Type 0} → (P → Item → Type 0) → (P → Item → Formula → Type 0)
    → Expectation Item P → Type 0
IsMetInfallibly infallible formula expectation =
    HoldsInfallibly infallible formula expectation.item expectation.check

-- the expectation's label, with a case that explains why it is not met
abbrev pub IsFailure : {Item P : Type 0} → (P → Item → Formula → Type 0) → Expectation Item P
    → Failure
    → Type 0
IsFailure formula expectation failure =
    (string_bytes failure.label ≡ string_bytes expectation.label)
    × IsCaseOf (expected formula expectation) false failure.reason

-- what a failure prints: its label, and the lines of its case
abbrev pub failure_text : Failure → List ℕ
failure_text failure = string_bytes failure.label ++ codes ": " ++ lines failure.reason
