use Rattle.std.proofs.Common.{take}
use Rattle.predicates_require.specs.Told.{HasFailures, Explains, about}
use Rattle.predicates_require.proofs.rules.failures.Given as goal

abbrev pub invariant-loop-rule : goal.invariant-loop-rule
invariant-loop-rule g l = HasFailures (about g.P.Predicate.formula l.item) (Explains (about g.P.Predicate.formula l.item))
    (take l.rule-index l.rules) l.cases.items
