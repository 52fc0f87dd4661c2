use Rattle.std.proofs.Common.{arith, subst, true, false}
use Rattle.predicates_core.specs.Formula.{HasTruth}
use Rattle.predicates_core.proofs.Tallies.{counted_next}
use Rattle.predicates_core.proofs.custom.threshold.front_of.Goals.{then-branch+else-held-spare, else-branch+else-failed-spare}
use Rattle.predicates_core.proofs.custom.threshold.front_of.Goals as goal

pub loop-member-preserved : goal.loop-member-preserved
loop-member-preserved g c = elim c.if-branch.branch [
  | then-branch+else-held-spare w ↦ (
    counted_next (g.A.Ask.formula_of c.args.common.now) true c.args.members.now c.loop-member.member-index c.member-item.result c.loop-member.held c.loop-member.failed c.if-branch.held c.if-branch.failed (omega arith) c.member-item.is c.loop-member.invariant.0
        (subst (HasTruth _) w.if-branch.true c.in_ok-eval.ensures.truth) (omega (arith, w.held-is)) (omega (arith, w.failed-is)),
    omega (arith, c.loop-member.invariant.1, w.held-is, w.if-held-spare.false),
    omega (arith, c.loop-member.invariant.2, w.failed-is),
  )
  | else-branch+else-failed-spare w ↦ (
    counted_next (g.A.Ask.formula_of c.args.common.now) false c.args.members.now c.loop-member.member-index c.member-item.result c.loop-member.held c.loop-member.failed c.if-branch.held c.if-branch.failed (omega arith) c.member-item.is c.loop-member.invariant.0
        (subst (HasTruth _) w.if-branch.false c.in_ok-eval.ensures.truth) (omega (arith, w.held-is)) (omega (arith, w.failed-is)),
    omega (arith, c.loop-member.invariant.1, w.held-is),
    omega (arith, c.loop-member.invariant.2, w.failed-is, w.if-failed-spare.false),
  )
]
