-- The inner predicate of one of numbers.
use Rattle.predicates_json.specs.declared.number.NumberPredicate.{NumberPredicate}

abbrev pub inner_of : {P N : Type 0} → NumberPredicate P N → P
inner_of p = p.inner
