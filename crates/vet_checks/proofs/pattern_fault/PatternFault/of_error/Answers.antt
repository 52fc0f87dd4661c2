use Rattle.std.proofs.Common.{ℕ, List, sym, subst}
use Rattle.regex.specs.Failures.{HasSpanIn}
use Rattle.vet_checks.proofs.pattern_fault.PatternFault.of_error.Goals as goal

pub column-column-requires : goal.column-column-requires
column-column-requires c = record { within = subst (λ (s : List ℕ). HasSpanIn s c.args.error) (sym c.deref.ensures) c.requires.within }
