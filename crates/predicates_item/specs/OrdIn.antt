-- The members of a sorted list.
use Rattle.std.specs.Prelude.{List}
use Rattle.std.specs.declared.cmp.Ord as Ord
use Rattle.std.specs.declared.cmp.PartialEq as PartialEq
use Rattle.std.specs.declared.cmp.PartialOrd as PartialOrd
use Rattle.predicates_item.specs.declared.iter.sorted.OrdInPredicate.{OrdInPredicate}
use Rattle.predicates_item.specs.declared.showing.ShowingPredicate.{ShowingPredicate}

module _ {T : Type 0} {order : Ord.Ghosts T} {equality : PartialEq.Ghosts T}
    {partial : PartialOrd.Ghosts T} where
  abbrev pub members_of : ShowingPredicate (OrdInPredicate T order equality partial) → List T
  members_of p = p.test.members.items
