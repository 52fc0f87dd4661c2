-- The parts of the combinator that asks its right part first.
use Rattle.tests_uses.specs.declared.right_first.RightFirst.{RightFirst}

module _ {P Q : Type 0} where
  abbrev pub left_of : RightFirst P Q → P
  left_of p = p.left

  abbrev pub right_of : RightFirst P Q → Q
  right_of p = p.right
