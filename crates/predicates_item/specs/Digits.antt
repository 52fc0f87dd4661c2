-- How often a number can be halved.
use Rattle.std.specs.Prelude.{◌≡◌, refl, ℕ, ◌+◌, ◌<◌, ◌/◌, length}
use Rattle.std.specs.Int.Digits.{digits_of}
use Rattle.std.proofs.Common.{arith}
use Rattle.std.proofs.lemmas.Int.Digits.{length-digits_of_step}

-- how many binary digits n has, where 0 has none
abbrev pub digits : ℕ → ℕ
digits n = length (digits_of 2 n)

pub digits_none : digits 0 ≡ 0
digits_none = refl

-- a number has one digit more than its half
pub digits_more : (n : ℕ) → 0 < n → digits n ≡ 1 + digits (n / 2)
digits_more n h = omega (arith, length-digits_of_step 2 n (omega arith) h)
