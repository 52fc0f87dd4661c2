-- What is asked of a check, and what is found.
use Rattle.std.specs.Prelude.{◌≡◌, ℕ, Bool, true, false, Option, Some, None}
use Rattle.predicates_core.specs.declared.custom.join.Operator.{Operator}
use Rattle.predicates_core.specs.declared.custom.join.Operator.TheVariants.{And, Or, Xor}
use Rattle.predicates_core.specs.Formula.{Formula}
use Rattle.predicates_core.specs.Tree.{Tree}
use Rattle.predicates_core.specs.Describe.{CaseNode}
use Rattle.predicates_core.specs.Asked.{asks, right_wanted, shown_verdict, IsFoundIf}
use Rattle.predicates_core.specs.Turning.{IsRightChange}
use Rattle.predicates_core.specs.declared.custom.tally.Sought.{Sought}
use Rattle.predicates_tree.specs.declared.quota.Quota.{Quota}
use Rattle.predicates_tree.specs.Quotas.{least}

-- what the right part of two is asked, where its case is wanted so, or what would turn it
abbrev pub right_asks : Bool → Operator → Option Bool → Option (Option Bool)
right_asks false op wanted = Some wanted
right_asks true And wanted = Some (Some false)
right_asks true Or wanted = Some (Some true)
right_asks true Xor wanted = None

-- this is found of the right part, where the left one has the truth a
abbrev pub IsRight : Bool → Operator → Bool → Option Bool → (Formula → Type 0) → Option Bool
    → Option (Tree CaseNode) → Type 0
IsRight false op a wanted F asked found =
    (asked ≡ right_wanted op a wanted) × IsFoundIf (asks op a) F asked found
IsRight true op a wanted F asked found = IsRightChange op F (shown_verdict asked found) found

-- what is sought of several, of which as many have to hold
abbrev pub sought_by : Quota → Bool → Option Bool → ℕ → Sought
sought_by q turns wanted n =
    record { turns = turns; wanted = wanted; least = least q n; number = n }
