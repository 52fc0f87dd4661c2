-- What a predicate in a box answers.
use Rattle.std.proofs.Common.{◌≡◌, ℕ, Bool, List}
use Rattle.std.specs.Prelude.{string_bytes}
use Rattle.predicates_core.specs.Formula.{Formula, truth, HasTruth}
use Rattle.predicates_core.specs.Text.{Text}
use Rattle.predicates.specs.Printed.{HasFormulas}

pub boxed_truth : {g : List ℕ → Formula} {has : Text → Formula → Type 0} {v : Text} {b : Bool} → HasFormulas g has → HasTruth (has v) b → truth (g (string_bytes v)) ≡ b
boxed_truth {g} {v} s h = h.at (g (string_bytes v)) (s.each v)
