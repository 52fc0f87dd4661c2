-- What would have to change for a formula's truth to turn: the first of all its minimal changes.
use Rattle.std.specs.Prelude.{ℕ, List, Bool, Option}
use Rattle.std.specs.List.{Contains}
use Rattle.predicates_core.specs.Formula.{Formula}
use Rattle.predicates_core.specs.Reason.{IsReason}
use Rattle.predicates_core.specs.Kinds.{changes}
pub use Rattle.predicates_core.specs.Kinds.{IsChange, IsFirstChange}
use Rattle.predicates_core.specs.Describe.{CaseNode}
use Rattle.predicates_core.specs.Tree.{Tree}
use Rattle.predicates_core.specs.Shows.{ExplainsBy, IsCaseBy, IsFoundBy}

-- the case shows the formula cut down to its first change
abbrev pub ExplainsChange : Formula → Tree CaseNode → Type 0
ExplainsChange = ExplainsBy changes

-- each formula of F has the truth b, and the case shows what would turn it
abbrev pub IsChangeOf : (Formula → Type 0) → Bool → Tree CaseNode → Type 0
IsChangeOf = IsCaseBy changes

-- what is to be answered where a truth is wanted, or the change of whichever the formulas have; no
-- case is found then only where there is no formula
abbrev pub IsFoundChange : (Formula → Type 0) → Option Bool → Option (Tree CaseNode) → Type 0
IsFoundChange = IsFoundBy changes

-- each reason has a leaf of each change: who keeps one reason as it is turns nothing
abbrev pub EachMeetsEach : Type 0
EachMeetsEach = (f : Formula) (reason change : List ℕ) → IsReason f reason → IsChange f change
    → (leaf : ℕ) × Contains reason leaf × Contains change leaf
