-- The parts of a join.
use Rattle.predicates_boolean.specs.declared.boolean.join.JoinPredicate.{JoinPredicate}

module _ {O M1 M2 Item : Type 0} where
  abbrev pub left_of : JoinPredicate O M1 M2 Item → M1
  left_of p = p.a

  abbrev pub right_of : JoinPredicate O M1 M2 Item → M2
  right_of p = p.b
