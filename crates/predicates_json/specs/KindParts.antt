-- The inner predicate of one of a kind of values.
use Rattle.predicates_json.specs.declared.kind.KindPredicate.{KindPredicate}

abbrev pub inner_of : {P U : Type 0} → KindPredicate P U → P
inner_of p = p.inner
