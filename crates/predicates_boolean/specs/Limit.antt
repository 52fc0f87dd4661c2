-- A threshold that may not be reached, and the most that may hold.
use Rattle.std.specs.Prelude.{ℕ}
use Rattle.predicates_boolean.specs.declared.limit.LimitPredicate.{LimitPredicate}

abbrev pub threshold_of : {T Item : Type 0} → LimitPredicate T Item → T
threshold_of p = p.threshold

abbrev pub limit_of : {T Item : Type 0} → LimitPredicate T Item → ℕ
limit_of p = p.limit
