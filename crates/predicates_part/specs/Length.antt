-- A predicate of the length of an item.
use Rattle.predicates_part.specs.declared.length.LengthPredicate.{LengthPredicate}

abbrev pub inner_of : {P : Type 0} → LengthPredicate P → P
inner_of p = p.inner
