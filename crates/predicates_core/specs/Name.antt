-- A predicate under a name.
use Rattle.predicates_core.specs.declared.name.NamePredicate.{NamePredicate}

module _ {M Item N : Type 0} where
  abbrev pub inner_of : NamePredicate M Item N → M
  inner_of p = p.inner

  abbrev pub name_of : NamePredicate M Item N → N
  name_of p = p.name
