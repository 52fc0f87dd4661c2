-- What is rejected by a filter.
use Rattle.std.specs.Prelude.{◌≡◌, false}
use Rattle.predicates_core.specs.Formula.{Formula}
use Rattle.predicates_core.specs.Shows.{IsCaseOf}
use Rattle.predicates_require.specs.declared.sifted.Rejection.{Rejection}

-- the item, with a case that explains why it was rejected
abbrev pub IsRejection : {T : Type 0} → (T → Formula → Type 0) → T → Rejection T → Type 0
IsRejection F item rejection = (rejection.item ≡ item) × IsCaseOf (F item) false rejection.reason
