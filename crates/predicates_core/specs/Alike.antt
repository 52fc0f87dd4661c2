-- When two formulas are explained alike, and when a formula has one case alone.
use Rattle.std.specs.Prelude.{◌≡◌, ◌↔◌, ℕ, Bool, List, IsSome}
use Rattle.std.specs.List.{AllByRecursion}
use Rattle.predicates_core.specs.Label.{Label}
use Rattle.predicates_core.specs.Formula.{Formula, Leaf, Join, Not, Named, AtLeast}
use Rattle.predicates_core.specs.Formula.{Formulas, one, more, IsValuation, value, actual, truth}
use Rattle.predicates_core.specs.Reason.{IsFirstReason}

-- the two formulas have the same truth and the same first reason
pub record AreAlike (f g : Formula) : Type 0 where
  pub truths : truth f ≡ truth g
  pub reasons : (leaves : List ℕ) → IsFirstReason f leaves ↔ IsFirstReason g leaves

-- the two formulas are the same function of the same leaves
pub record AreSameFunction (f g : Formula) : Type 0 where
  pub leaves : actual f ≡ actual g
  pub values : (w : List Bool) → IsValuation f w → value f w ≡ value g w

-- the label leaves no entry open
pub record IsStated (label : Label) : Type 0 where
  pub text : IsSome label.text
  pub products : AllByRecursion (λ p. IsSome p.value) label.products

-- no label of the formula leaves an entry open
unfoldable mutual
  pub HasStatedLabels : Formula → Type 0
  HasStatedLabels (Leaf label truth) = IsStated label
  HasStatedLabels (Join op label fs) = IsStated label × HaveStatedLabels fs
  HasStatedLabels (Not label f) = IsStated label × HasStatedLabels f
  HasStatedLabels (Named label name f) = IsStated label × HasStatedLabels f
  HasStatedLabels (AtLeast k label fs) = IsStated label × HaveStatedLabels fs

  pub HaveStatedLabels : Formulas → Type 0
  HaveStatedLabels (one name f) = HasStatedLabels f
  HaveStatedLabels (more name f fs) = HasStatedLabels f × HaveStatedLabels fs
