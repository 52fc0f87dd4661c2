-- The measure of a check that is dropped: left parts count twice, so that each rotation makes it
-- less.
use Rattle.std.specs.Prelude.{ℕ, ◌+◌, ◌*◌}
use Rattle.explain_words.specs.declared.check.TextCheck as checks
use Rattle.explain_words.specs.declared.check.TextCheck.{TextCheck}

abbrev pub weight : TextCheck → ℕ
weight (checks.Trim' _ inner) = weight inner + 1
weight (checks.Normalize' _ inner) = weight inner + 1
weight (checks.Not' _ inner) = weight inner + 1
weight (checks.And' _ left _ right) = 2 * weight left + weight right + 1
weight (checks.Or' _ left _ right) = 2 * weight left + weight right + 1
weight (checks.Xor' _ left _ right) = 2 * weight left + weight right + 1
weight _ = 1

-- it has no parts
abbrev pub IsLeafCheck : TextCheck → Type 0
IsLeafCheck (checks.Trim' _ inner) = ⊥
IsLeafCheck (checks.Normalize' _ inner) = ⊥
IsLeafCheck (checks.Not' _ inner) = ⊥
IsLeafCheck (checks.And' _ left _ right) = ⊥
IsLeafCheck (checks.Or' _ left _ right) = ⊥
IsLeafCheck (checks.Xor' _ left _ right) = ⊥
IsLeafCheck _ = Unit {0}
