-- What a join asks of its parts, where what would turn it is sought.
use Rattle.std.specs.Prelude.{Bool, false, not, Option}
use Rattle.predicates_core.specs.Formula.{Formula, HasTruth}
use Rattle.predicates_core.specs.declared.custom.join.Operator.{Operator}
use Rattle.predicates_core.specs.declared.custom.join.Operator.TheVariants.{And, Or, Xor}
use Rattle.predicates_core.specs.Tree.{Tree}
use Rattle.predicates_core.specs.Describe.{CaseNode}
use Rattle.predicates_core.specs.Kinds.{changes}
use Rattle.predicates_core.specs.Asked.{IsAnswerIf}

-- whether the right part, where it has this truth, has to turn too for the whole to turn
abbrev pub turns_right : Operator → Bool → Bool
turns_right And right = not right
turns_right Or right = right
turns_right Xor right = false

-- the right part has the truth, and this is its change where that belongs to the whole's
pub record IsRightChange (op : Operator) (F : Formula → Type 0) (b : Bool)
    (found : Option (Tree CaseNode)) : Type 0 where
  pub truth : HasTruth F b
  pub change : IsAnswerIf changes (turns_right op b) F b found
