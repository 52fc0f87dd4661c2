use Rattle.std.proofs.Common.{subst, refl}
use Rattle.predicates_core.specs.Tally.{IsFront}
use Rattle.predicates_core.proofs.ThresholdCases.{HasTruth-settled}
use Rattle.predicates_core.proofs.Tallies.{front_decides}
use Rattle.predicates_core.proofs.custom.threshold.counted_hold.Goals as goal

pub returns-then-is_settled-clause-truth : goal.returns-then-is_settled-clause-truth
returns-then-is_settled-clause-truth g c = λ text name. HasTruth-settled _ (g.A.Ask.formula_of c.args.common.now) c.args.least (c.is_settled.ensures.settled c.if-is_settled.true) refl

pub returns-in-Some-clause-truth : goal.returns-in-Some-clause-truth
returns-in-Some-clause-truth g c = λ text name. front_decides (g.A.Ask.formula_of c.args.common.now) c.in-Some.holds c.args.members.now _ c.in_ok-front.front.passed c.args.least
    (c.is_settled.ensures.some c.if-is_settled.false) (c.is_settled.ensures.within c.if-is_settled.false) refl refl
    (subst (IsFront (g.A.Ask.formula_of c.args.common.now) _ c.args.members.now c.in_ok-front.front.passed) c.in-Some.is c.in_ok-front.ensures.front)
