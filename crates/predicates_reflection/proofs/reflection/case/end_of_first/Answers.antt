use Rattle.std.proofs.Common.{arith, subst, ◌+◌}
use Rattle.predicates_reflection.proofs.FirstTrees.{EndAt, next_end, first_trees}
use Rattle.predicates_reflection.proofs.reflection.case.end_of_first.Goals as goal

pub loop-count-preserved : goal.loop-count-preserved
loop-count-preserved c = (
  subst (λ e. EndAt c.args.entries.now (c.loop-count.count + 1) (c.loop-count.end + e.size)) c.index-entries-end.is (next_end c.args.entries.now _ _ c.index-entries-end.result c.if-end-entries.true c.index-entries-end.is c.loop-count.invariant.0),
  omega (arith, c.loop-count-test.true),
)

pub returns-after-loop-count-clause-trees : goal.returns-after-loop-count-clause-trees
returns-after-loop-count-clause-trees c = (first_trees c.args.entries.now _ _ c.args.number c.loop-count.invariant.0 c.loop-count.invariant.1 (λ less. absurd (omega (arith, less, c.loop-count-test.false)))).1
