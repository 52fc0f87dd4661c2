-- A formula with one product more at its root.
use Rattle.std.specs.Prelude.{◌≡◌, ℕ, List}
use Rattle.predicates_core.specs.Label.{Entry}
use Rattle.predicates_core.specs.Formula.{Formula, with_product}

-- f is a formula of the part with a product more, the last of its root
pub record IsWithProduct (name : List ℕ) (value : Entry) (part : Formula → Type 0)
    (f : Formula) : Type 0 where
  pub inner : Formula
  pub of_part : part inner
  pub is : f ≡ with_product inner (record { name = name; value = value })
