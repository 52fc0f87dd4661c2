-- The members of a list.
use Rattle.std.specs.Prelude.{List}
use Rattle.predicates_item.specs.declared.iter.listed.InPredicate.{InPredicate}
use Rattle.predicates_item.specs.declared.showing.ShowingPredicate.{ShowingPredicate}

abbrev pub members_of : {T : Type 0} → ShowingPredicate (InPredicate T) → List T
members_of p = p.test.members.items
