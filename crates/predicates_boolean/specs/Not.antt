-- The part of a negation.
use Rattle.predicates_boolean.specs.declared.boolean.not.NotPredicate.{NotPredicate}

abbrev pub inner_of : {M Item : Type 0} → NotPredicate M Item → M
inner_of p = p.inner
