use Rattle.std.proofs.Common.{ℕ, List, sym, subst}
use Rattle.predicates_text.specs.Expressions.{IsReadFrom}
use Rattle.vet_checks.proofs.matchers.Matchers.first_match.Goals as goal

pub returns : goal.returns
returns c = λ regex read. c.has_match-found.ensures regex (subst (λ (s : List ℕ). ∥ IsReadFrom s regex ∥₁) (sym c.in_ok-kept.ensures) read)
