-- What a stored function answers on an item, where it has one answer that is known.
use Rattle.std.proofs.Common.{◌≡◌, ℕ, Bool, List, Option, Some, None, Result, Ok, Err, IfOk, not}
use Rattle.std.specs.Fn.{Shared, FnReturnsAt}
use denote.Ref.{Bor}
use Rattle.predicates_core.specs.Label.{plain}
use Rattle.predicates_core.specs.Formula.{Formula, Leaf, HasTruth}
use Rattle.predicates_core.specs.Leaves.{IsExactly}
use Rattle.predicates_core.specs.Describe.{CaseNode}
use Rattle.predicates_core.specs.Tree.{Tree}
use Rattle.predicates_core.specs.Shows.{IsAnswer}
use Rattle.predicates_item.specs.Function.{IsCall, call_text}

pub has-call : {F T : Type 0} {calls : Shared F (Bor T × Unit {0}) Bool} {function closure : F} {name given : List ℕ} {item : T} {own : Bool} {g : Formula}
    → function ≡ closure → name ≡ given → FnReturnsAt calls closure item own
    → IsExactly (Leaf (plain (call_text given)) own) g → IsCall calls function (call_text name) item g
has-call {own} of_function of_name says h = record { answer = own; says = rw of_function says; is = rw of_name h.is }

-- what holds of all formulas of one relation holds of those of a narrower one
module _ {F G : Formula → Type 0} where
  truth-narrower : ((g : Formula) → G g → F g) → (b : Bool) → HasTruth F b → HasTruth G b
  truth-narrower has b h = record { at = λ g k. h.at g (has g k) }

  answer-narrower : ((g : Formula) → G g → F g) → (expected : Bool) (found : Option (Tree CaseNode)) → IsAnswer F expected found → IsAnswer G expected found
  answer-narrower has expected None h = truth-narrower has (not expected) h
  answer-narrower has expected (Some t) h = record { truth = truth-narrower has expected h.truth; explains = λ g k. h.explains g (has g k) }

  pub eval-narrower : {E : Type 0} (r : Result Bool E) → ((g : Formula) → G g → F g) → IfOk r (HasTruth F) → IfOk r (HasTruth G)
  eval-narrower (Ok b) has h = truth-narrower has b h
  eval-narrower (Err e) has h = tt

  pub find-narrower : {E : Type 0} (expected : Bool) (r : Result (Option (Tree CaseNode)) E) → ((g : Formula) → G g → F g) → IfOk r (IsAnswer F expected) → IfOk r (IsAnswer G expected)
  find-narrower expected (Ok found) has h = answer-narrower has expected found h
  find-narrower expected (Err e) has h = tt
