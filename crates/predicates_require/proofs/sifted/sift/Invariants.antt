use Rattle.predicates_require.specs.Told.{AreTold}
use Rattle.predicates_require.specs.Sifted.{IsRejection}
use Rattle.predicates_require.proofs.sifted.sift.Given as goal

abbrev pub invariant-loop-item : goal.invariant-loop-item
invariant-loop-item g l = AreTold (g.P.Predicate.formula l.predicate) (IsRejection (g.P.Predicate.formula l.predicate))
    l.yielded l.kept.items l.rejected.items
