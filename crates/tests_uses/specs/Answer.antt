-- What the leaf of the caller's own prints, and when it holds.
use Rattle.std.specs.Prelude.{ℕ, Some, codes, decimal, ◌==◌}
use Rattle.predicates_core.specs.Label.{Entry, showing}
use Rattle.predicates_core.specs.Formula.{Formula, Leaf}

abbrev pub answer_text : Entry
answer_text = Some (codes "var.is_the_answer()")

-- a leaf that shows the number, and is true where that is 42
abbrev pub answer_formula : ℕ → Formula
answer_formula n = Leaf (showing answer_text (codes "var") (Some (decimal n))) (n == 42)
