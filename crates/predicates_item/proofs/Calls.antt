-- What a stored function answers is the truth of its leaf, and the leaf's case is that of the call.
use Rattle.std.proofs.Common.{ℕ, Bool, List, Option, Result, sym, ap, ◌∙◌}
use Rattle.std.specs.Prelude.{IfOk}
use Rattle.std.specs.Fn.{Shared, FnReturnsAt}
use denote.Ref.{Bor}
use Rattle.predicates_core.specs.Label.{plain}
use Rattle.predicates_core.specs.Formula.{Formula, Leaf, HasTruth, truth}
use Rattle.predicates_core.specs.Describe.{CaseNode}
use Rattle.predicates_core.specs.Tree.{Tree}
use Rattle.predicates_core.specs.Leaves.{IsExactly}
use Rattle.predicates_core.specs.Shows.{IsFound}
use Rattle.predicates_core.proofs.Fewer.{found_of_fewer}
use Rattle.predicates_core.proofs.Values.{truth-Leaf}
use Rattle.predicates_item.specs.Function.{HasOneAnswer, IsCall}

module _ {F T : Type 0} {calls : Shared F (Bor T × Unit {0}) Bool} {function : F} {text : Option (List ℕ)} {item : T} where
  pub HasTruth-call : {b : Bool} → HasOneAnswer calls function → FnReturnsAt calls function item b → HasTruth (IsCall calls function text item) b
  HasTruth-call {b} one says = record { at = λ leaf h. ap truth h.is ∙ truth-Leaf (plain text) h.answer ∙ one item h.answer b h.says says }

  module _ {b : Bool} (h : HasTruth (IsCall calls function text item) b) where
    -- with this truth, the call has one formula
    call_is : (f : Formula) → IsCall calls function text item f → IsExactly (Leaf (plain text) b) f
    call_is f k = record { is = k.is ∙ ap (Leaf (plain text)) (sym (truth-Leaf (plain text) k.answer) ∙ ap truth (sym k.is) ∙ h.at f k) }

    pub answer_of_leaf : {E : Type 0} (w : Option Bool) (r : Result (Option (Tree CaseNode)) E) → IfOk r (IsFound (IsExactly (Leaf (plain text) b)) w) → IfOk r (IsFound (IsCall calls function text item) w)
    answer_of_leaf w r = found_of_fewer w r call_is
