use Rattle.std.proofs.Common.{ℕ, List, subst}
use Rattle.regex.specs.Failures.{HasSpanIn}
use Rattle.vet_checks.proofs.pattern.Pattern.read.Goals as goal

pub of_error-requires : goal.of_error-requires
of_error-requires c = record { within = subst (λ (s : List ℕ). HasSpanIn s c.in-Err.error) c.deref.ensures c.in-Err.ensures.span }
