use Rattle.vet_checks.proofs.Alike.{matches_as_source}
use Rattle.vet_checks.proofs.kept_matcher.KeptMatcher.new.Goals as goal

pub invariant_of-result : goal.invariant_of-result
invariant_of-result c = record { by_source = rw (c.in_ok-matcher.ensures.pattern, c.deref.ensures, c.source.ensures) (matches_as_source _ c.args.pattern.now.regex.value c.args.pattern.now.by_default) }
