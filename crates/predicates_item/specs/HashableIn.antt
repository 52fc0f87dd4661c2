-- The members of a hashed set.
use Rattle.std.specs.Prelude.{List}
use Rattle.predicates_item.specs.declared.iter.hashed.HashableInPredicate.{HashableInPredicate}
use Rattle.predicates_item.specs.declared.showing.ShowingPredicate.{ShowingPredicate}

abbrev pub members_of : {T : Type 0} → ShowingPredicate (HashableInPredicate T) → List T
members_of p = p.test.members.keys
