-- The comparisons with a constant, by what they test.
use Rattle.predicates_item.specs.declared.ord.equality.EqPredicate.{EqPredicate}
use Rattle.predicates_item.specs.declared.ord.equality.EqOps.TheVariants.{Equal, NotEqual}
use Rattle.predicates_item.specs.declared.ord.order.OrdPredicate.{OrdPredicate}
use Rattle.predicates_item.specs.declared.ord.order.OrdOps.TheVariants.{LessThan, LessThanOrEqual}
use Rattle.predicates_item.specs.declared.ord.order.OrdOps.TheVariants.{GreaterThanOrEqual}
use Rattle.predicates_item.specs.declared.ord.order.OrdOps.TheVariants.{GreaterThan}
use Rattle.predicates_item.specs.declared.showing.ShowingPredicate.{ShowingPredicate}

module _ {T : Type 0} where
  abbrev pub equal_to : T → ShowingPredicate (EqPredicate T)
  equal_to constant = record { test = record { constant = constant; op = Equal } }

  abbrev pub unequal_to : T → ShowingPredicate (EqPredicate T)
  unequal_to constant = record { test = record { constant = constant; op = NotEqual } }

  abbrev pub less_than : T → ShowingPredicate (OrdPredicate T)
  less_than constant = record { test = record { constant = constant; op = LessThan } }

  abbrev pub at_most : T → ShowingPredicate (OrdPredicate T)
  at_most constant = record { test = record { constant = constant; op = LessThanOrEqual } }

  abbrev pub at_least : T → ShowingPredicate (OrdPredicate T)
  at_least constant = record { test = record { constant = constant; op = GreaterThanOrEqual } }

  abbrev pub greater_than : T → ShowingPredicate (OrdPredicate T)
  greater_than constant = record { test = record { constant = constant; op = GreaterThan } }
