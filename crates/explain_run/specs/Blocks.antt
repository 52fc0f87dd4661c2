-- The block of text that explains a verdict.
use Rattle.std.specs.Prelude.{◌≡◌, ℕ, Bool, List, ◌++◌, codes}
use Rattle.predicates_core.specs.Formula.{Formula, truth}
use Rattle.predicates_core.specs.Tree.{Tree}
use Rattle.predicates_core.specs.Describe.{CaseNode}
use Rattle.predicates_core.specs.Leaves.{word}
use Rattle.predicates_core.specs.Lines.{lines}
use Rattle.predicates_core.specs.Shows.{Explains}

-- the label and the verdict, on a line
abbrev pub heading : List ℕ → Bool → List ℕ
heading label verdict = label ++ (codes ": " ++ (word verdict ++ codes "\n"))

-- the heading with the formula's truth, and the lines of a case that shows the formula cut down to
-- its first reason
pub record IsBlock (label : List ℕ) (f : Formula) (bytes : List ℕ) : Type 0 where
  pub case : Tree CaseNode
  pub explains : Explains f case
  pub is : bytes ≡ heading label (truth f) ++ lines case

-- a block of each formula of F
pub record HasBlocks (F : Formula → Type 0) (label bytes : List ℕ) : Type 0 where
  pub each : (f : Formula) → F f → IsBlock label f bytes
