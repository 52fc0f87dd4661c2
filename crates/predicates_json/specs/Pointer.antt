-- The formulas of a predicate of what stands at a pointer.
use Rattle.std.specs.Prelude.{◌≡◌, ℕ, List, Some, codes}
use Rattle.predicates_core.specs.Label.{plain}
use Rattle.predicates_core.specs.Formula.{Formula, Named}
use Rattle.predicates_json.specs.declared.pointer.PointerPredicate.{PointerPredicate}

-- the formula that prints the pointer, over one that stands under `value`
abbrev pub at_formula : List ℕ → Formula → Formula
at_formula pointer f = Named (plain (Some pointer)) (codes "value") f

-- f is that formula over one of the part
pub record IsAt (pointer : List ℕ) (part : Formula → Type 0) (f : Formula) : Type 0 where
  pub inner : Formula
  pub of_part : part inner
  pub is : f ≡ at_formula pointer inner

-- what is said where there is nothing
abbrev pub no_value_text : List ℕ
no_value_text = codes "no value"

module _ {P N : Type 0} where
  abbrev pub inner_of : PointerPredicate P N → P
  inner_of p = p.inner

  abbrev pub pointer_of : PointerPredicate P N → N
  pointer_of p = p.pointer
