-- The order of JSON's numbers by their values: nothing is rounded, and -0 equals 0.
use Rattle.std.specs.Prelude.{suc, ℤ, pos, negsuc, true, false}
use Rattle.std.specs.Float.{Float, fin}
use Rattle.std.specs.declared.cmp.Ordering.{Ordering}
use Rattle.std.specs.Ordering.{nan_last_cmp}
use Rattle.std.specs.Cmp.{IsTotalOrder, on_total}
use Rattle.std.specs.Float.Cmp.{nan_last}
use Rattle.serde_json.specs.Data.{Num, unsigned, negative, float}
use Rattle.vet_checks.specs.declared.number.Exact.{Exact}
use Rattle.vet_checks.specs.declared.number.Exact.TheVariants as exact_numbers

-- a whole number as a float, of as many digits as it takes
abbrev pub whole : ℤ → Float
whole (pos n) = fin false n (pos 0)
whole (negsuc n) = fin true (suc n) (pos 0)

abbrev pub exact : Num → Float
exact (unsigned n) = whole (pos n)
exact (negative z) = whole z
exact (float x) = x

-- that of the floats; a NaN, which JSON has not, stands last
unfoldable pub number_cmp : Num → Num → Ordering
number_cmp a b = nan_last_cmp (exact a) (exact b)

-- of two numbers one is at most the other, equal ones stand alike to any third, and a chain holds
pub number_cmp_total : IsTotalOrder number_cmp
unfolding number_cmp
number_cmp_total = on_total exact nan_last

abbrev pub num_of_exact : Exact → Num
num_of_exact (exact_numbers.Natural n) = unsigned n
num_of_exact (exact_numbers.Negative z) = negative z
num_of_exact (exact_numbers.Float x) = float x

abbrev pub exact_cmp : Exact → Exact → Ordering
exact_cmp a b = number_cmp (num_of_exact a) (num_of_exact b)

pub exact_cmp_total : IsTotalOrder exact_cmp
exact_cmp_total = on_total num_of_exact number_cmp_total
