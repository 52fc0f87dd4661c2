-- What the bounds of floats print and test.
use Rattle.std.specs.Prelude.{ℕ, Bool, List, Option, Some, codes, Float}
use Rattle.std.specs.Float.Ieee.{lt, le}
use Rattle.std.specs.Fmt.{◌++?◌}
use Rattle.predicates_json.specs.declared.float.BoundOps.{BoundOps}
use Rattle.predicates_json.specs.declared.float.BoundOps.TheVariants.{LessThan, LessThanOrEqual}
use Rattle.predicates_json.specs.declared.float.BoundOps.TheVariants.{GreaterThanOrEqual}
use Rattle.predicates_json.specs.declared.float.BoundOps.TheVariants.{GreaterThan}

abbrev pub bound_symbol : BoundOps → List ℕ
bound_symbol LessThan = codes "<"
bound_symbol LessThanOrEqual = codes "<="
bound_symbol GreaterThanOrEqual = codes ">="
bound_symbol GreaterThan = codes ">"

-- `var`, the symbol and the bound
abbrev pub bound_text : List ℕ → Option (List ℕ) → Option (List ℕ)
bound_text symbol bound = Some (codes "var ") ++? Some symbol ++? Some (codes " ") ++? bound

-- the answer of a float, on the left, and a bound
abbrev pub bound_truth : BoundOps → Float → Float → Bool
bound_truth LessThan x bound = lt x bound
bound_truth LessThanOrEqual x bound = le x bound
bound_truth GreaterThanOrEqual x bound = le bound x
bound_truth GreaterThan x bound = lt bound x
