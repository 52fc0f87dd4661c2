-- The value that an item may hold, and the inner predicate.
use Rattle.std.specs.Prelude.{Option, Some, None, Result, Ok, Err}
use Rattle.predicates_part.specs.declared.variant.VariantPredicate.{VariantPredicate}

abbrev pub inner_of : {V P : Type 0} → VariantPredicate V P → P
inner_of p = p.inner

abbrev pub value_of_ok : {U E : Type 0} → Result U E → Option U
value_of_ok (Ok u) = Some u
value_of_ok (Err e) = None

abbrev pub value_of_err : {U E : Type 0} → Result U E → Option E
value_of_err (Ok u) = None
value_of_err (Err e) = Some e
