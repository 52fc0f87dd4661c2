-- What a join asks of its parts.
use Rattle.std.specs.Prelude.{◌≡◌, Bool, true, false, not, ◌||◌, Option, Some, None, option_map}
use Rattle.predicates_core.specs.Formula.{Formula, differ}
use Rattle.predicates_core.specs.declared.custom.join.Operator.{Operator}
use Rattle.predicates_core.specs.declared.custom.join.Operator.TheVariants.{And, Or, Xor}
use Rattle.predicates_core.specs.Tree.{Tree}
use Rattle.predicates_core.specs.Describe.{CaseNode}
use Rattle.predicates_core.specs.Kinds.{Kind}
use Rattle.predicates_core.specs.Shows.{IsAnswerBy, IsFound}

-- whether the right part counts where the left one has this truth
abbrev pub asks : Operator → Bool → Bool
asks And left = left
asks Or left = not left
asks Xor left = true

-- whether the left part belongs to the reason where the parts have these truths
abbrev pub keeps : Operator → Bool → Bool → Bool
keeps And left right = not left || right
keeps Or left right = left || not right
keeps Xor left right = true

-- the truth that the left part's case has to have, where one of the whole is wanted
abbrev pub left_wanted : Operator → Option Bool → Option Bool
left_wanted And wanted = wanted
left_wanted Or wanted = wanted
left_wanted Xor wanted = None

-- the truth that the right part's case has to have, where the left one has this truth
abbrev pub right_wanted : Operator → Bool → Option Bool → Option Bool
right_wanted And left wanted = wanted
right_wanted Or left wanted = wanted
right_wanted Xor left wanted = option_map (λ b. differ b left) wanted

-- the truth of a part for which this was found where this was wanted
abbrev pub shown_verdict : Option Bool → Option (Tree CaseNode) → Bool
shown_verdict (Some wanted) (Some t) = wanted
shown_verdict (Some wanted) None = not wanted
shown_verdict None (Some t) = t.root.result
shown_verdict None None = false

-- another truth is wanted
abbrev pub is_other : Option Bool → Bool → Bool
is_other (Some wanted) b = differ wanted b
is_other None b = false

-- what is found of a part, where it was asked
abbrev pub IsFoundIf : Bool → (Formula → Type 0) → Option Bool → Option (Tree CaseNode) → Type 0
IsFoundIf true F wanted found = IsFound F wanted found
IsFoundIf false F wanted found = found ≡ None

-- the case of a part that has the truth, where it belongs to the whole's
abbrev pub IsAnswerIf : Kind → Bool → (Formula → Type 0) → Bool → Option (Tree CaseNode) → Type 0
IsAnswerIf q true F b found = IsAnswerBy q F b found
IsAnswerIf q false F b found = found ≡ None
