-- Between two depths the reader goes down the levels.
use Rattle.std.proofs.Common.{◌≡◌, ℕ, ◌+◌, ◌<◌, arith}
use Rattle.vet_rules.specs.declared.expression.Connective.{Connective}
use Rattle.vet_rules.specs.declared.expression.Connective.TheVariants.{Or, Xor, And}
use Rattle.vet_rules.specs.declared.parser.Separator.{Separator}
use Rattle.vet_rules.specs.declared.parser.Separator.TheVariants as separators
use Rattle.vet_rules.specs.Grammar.{Level, By, Single, Whole, Premise, tighter}

abbrev pub height : Connective → ℕ
height And = 9
height Xor = 13
height Or = 17

abbrev pub level_height : Level → ℕ
level_height Single = 8
level_height (By c) = height c + 3
level_height Whole = 22
level_height Premise = 1

abbrev pub row_height : Separator → ℕ
row_height (separators.Connective c) = height c
row_height separators.Comma = 1

tighter_is_lower : (c : Connective) → level_height (tighter c) < height c
tighter_is_lower Or = omega arith
tighter_is_lower Xor = omega arith
tighter_is_lower And = omega arith

pub lower : (c : Connective) (l : Level) → l ≡ tighter c → level_height l < height c
lower c l e = rw e (tighter_is_lower c)
