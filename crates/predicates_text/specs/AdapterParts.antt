-- The predicate that an adapter evaluates on a view.
use Rattle.predicates_text.specs.declared.adapters.view.ViewPredicate.{ViewPredicate}

module _ {V P : Type 0} where
  abbrev pub inner_of : ViewPredicate V P → P
  inner_of p = p.inner
