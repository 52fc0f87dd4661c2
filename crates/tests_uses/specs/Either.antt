-- What the combinator of the caller's own prints, and its parts.
use Rattle.std.specs.Prelude.{Some, codes}
use Rattle.std.specs.Fmt.{◌++?◌}
use Rattle.predicates_core.specs.Label.{Entry}
use Rattle.tests_uses.specs.declared.either.Either.{Either}

-- the printed text over those of the parts
abbrev pub either_text : Entry → Entry → Entry
either_text a b = Some (codes "either(") ++? a ++? Some (codes ", ") ++? b ++? Some (codes ")")

module _ {P Q : Type 0} where
  abbrev pub left_of : Either P Q → P
  left_of p = p.left

  abbrev pub right_of : Either P Q → Q
  right_of p = p.right
