-- The change of a leaf is the leaf, as its reason is.
use Rattle.std.proofs.Common.{Bool, [], ◌∷◌, Option, Some, None, refl, sym, subst}
use Rattle.std.specs.Prelude.{Result, Ok, Err, IfOk}
use Rattle.predicates_core.specs.Label.{Label}
use Rattle.predicates_core.specs.Formula.{Formula, Leaf, Join, Not, Named, AtLeast, IsLeaf}
use Rattle.predicates_core.specs.Tree.{Tree}
use Rattle.predicates_core.specs.Describe.{CaseNode}
use Rattle.predicates_core.specs.Kinds.{Kind, changes}
use Rattle.predicates_core.specs.Shows.{Shows, Explains, ExplainsBy, IsCaseOf, IsCaseBy, IsFound}
use Rattle.predicates_core.specs.Change.{IsFoundChange}
use Rattle.predicates_core.specs.Leaves.{IsExactly}
use Rattle.predicates_core.proofs.BothKinds.{first-Leaf}

-- what explains a leaf's verdict shows what would turn it
explains_leaf : (q : Kind) (f : Formula) (t : Tree CaseNode) → IsLeaf f → Explains f t → ExplainsBy q f t
unfolding Shows
explains_leaf q (Leaf label own) t is x = record { leaves = 0 ∷ []; first = first-Leaf label own q; shown = (x.shown.0, x.shown.1, refl) }
explains_leaf q (Join op label fs) t is x = absurd is
explains_leaf q (Not label f) t is x = absurd is
explains_leaf q (Named label name f) t is x = absurd is
explains_leaf q (AtLeast k label fs) t is x = absurd is

pub leaf_case : (q : Kind) {F : Formula → Type 0} {b : Bool} {t : Tree CaseNode} → ((f : Formula) → F f → IsLeaf f) → IsCaseOf F b t → IsCaseBy q F b t
leaf_case q leaf c = record { truth = c.truth; explains = λ f h. explains_leaf q f _ (leaf f h) (c.explains f h) }

-- a formula that is exactly a leaf is one
pub exact_leaf : {label : Label} {own : Bool} (f : Formula) → IsExactly (Leaf label own) f → IsLeaf f
exact_leaf f p = subst IsLeaf (sym p.is) tt

pub leaf_found : {E : Type 0} {F : Formula → Type 0} (w : Option Bool) (r : Result (Option (Tree CaseNode)) E) → ((f : Formula) → F f → IsLeaf f) → IfOk r (IsFound F w) → IfOk r (IsFoundChange F w)
leaf_found (Some e) (Ok (Some t)) leaf x = leaf_case changes leaf x
leaf_found (Some e) (Ok None) leaf x = x
leaf_found None (Ok (Some t)) leaf x = leaf_case changes leaf x
leaf_found None (Ok None) leaf x = x
leaf_found w (Err e) leaf x = tt
