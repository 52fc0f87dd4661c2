-- The verdict of a leaf whose formula is stated by a relation.
use Rattle.std.proofs.Common.{◌≡◌, ◌↔◌, Bool, Result, Ok, Err, sym}
use Rattle.std.specs.Prelude.{IfOk}
use Rattle.predicates_core.specs.Label.{Label}
use Rattle.predicates_core.specs.Formula.{Formula, Leaf, HasTruth}
use Rattle.predicates_core.specs.Leaves.{IsExactly}
use Rattle.predicates_core.proofs.Leaves.{HasTruth-exactly}
use Rattle.predicates_core.proofs.Fewer.{truth_of_fewer}

pub verdict_of_leaf : {E : Type 0} {has : Formula → Type 0} {label : Label} {own : Bool} (r : Result Bool E)
    → ((f : Formula) → has f ↔ IsExactly (Leaf label own) f) → IfOk r (λ holds. holds ≡ own) → IfOk r (HasTruth has)
verdict_of_leaf (Ok holds) is e = truth_of_fewer (λ f. (is f).0) (HasTruth-exactly (sym e))
verdict_of_leaf (Err e) is x = tt
