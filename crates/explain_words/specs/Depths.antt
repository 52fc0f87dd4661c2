-- The depths of the checks on a stack.
use Rattle.std.specs.Prelude.{◌≡◌, ℕ, suc, max, List, [], ◌∷◌, map}
use Rattle.explain_words.specs.Postfix.{AreWithin, depth}
use Rattle.explain_words.specs.declared.check.TextCheck.{TextCheck}

-- the depth of a check over operands of these depths
abbrev pub depth_over : List ℕ → ℕ
depth_over [] = 0
depth_over (operand ∷ []) = suc operand
depth_over (left ∷ right ∷ _) = suc (max left right)

-- the depths are those of the checks, and none is past the limit
abbrev pub AreTracked : List TextCheck → List ℕ → Type 0
AreTracked checks depths = (depths ≡ map depth checks) × AreWithin checks
