-- How many of several predicates have to hold.
use Rattle.std.specs.Prelude.{ℕ}
use Rattle.predicates_core.specs.declared.custom.quantifier.HowMany.{HowMany}
use Rattle.predicates_core.specs.declared.custom.quantifier.HowMany.TheVariants.{
  Every,
  AtLeastOne,
  AtLeast,
}

-- how many of n have to hold
abbrev pub least_of : HowMany → ℕ → ℕ
least_of Every n = n
least_of AtLeastOne n = 1
least_of (AtLeast k) n = k
