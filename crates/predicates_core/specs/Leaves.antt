-- Formulas that are single leaves.
use Rattle.std.specs.Prelude.{◌≡◌, ℕ, Bool, not, List, [], Option, MatchOption, cond, codes}
use Rattle.predicates_core.specs.Label.{Entry, Fits}
use Rattle.predicates_core.specs.Formula.{Formula, HasTruth}
use Rattle.predicates_core.specs.Tree.{Tree}
use Rattle.predicates_core.specs.Describe.{CaseNode, with_product}
use Rattle.predicates_core.specs.Shows.{IsNode}

-- how a truth is printed
abbrev pub word : Bool → List ℕ
word b = cond b (codes "true") (codes "false")

-- f is the formula g
pub record IsExactly (g f : Formula) : Type 0 where
  pub is : f ≡ g

-- t is c with one more product, whose value fits the entry
pub record IsShowing (name : List ℕ) (entry : Entry) (c t : Tree CaseNode) : Type 0 where
  pub bytes : List ℕ
  pub fits : Fits entry bytes
  pub is : t ≡ with_product c (name, bytes)

-- what a leaf without products is to answer
abbrev pub IsBareAnswer : (Formula → Type 0) → Option (List ℕ) → Bool → Option (Tree CaseNode)
    → Type 0
IsBareAnswer F printed expected found = MatchOption found (HasTruth F (not expected))
    (λ c. HasTruth F expected × IsNode printed expected [] c)
