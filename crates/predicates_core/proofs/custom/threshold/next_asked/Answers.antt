use Rattle.std.proofs.Common.{arith, refl, ◌+◌}
use Rattle.predicates_core.specs.Tally.{kind_of}
use Rattle.predicates_core.proofs.Tallies.{passed_next}
use Rattle.predicates_core.proofs.custom.threshold.next_asked.Goals as goal

pub loop-member-preserved : goal.loop-member-preserved
loop-member-preserved g c = (
  passed_next (g.A.Ask.formula_of c.args.common.now) (kind_of g.K.Seeks.turns) c.args.asked c.is_other-other.result c.args.members.now c.loop-member.member-index c.member-item.result c.loop-member.passed (c.loop-member.passed + 1) c.in_ok-found.found c.is_other-other.ensures (omega arith) c.member-item.is c.loop-member.invariant.0
      c.in_ok-found.ensures (c.is_shown.ensures.none c.if-is_shown.false) (c.is_shown.ensures.asked c.if-is_shown.false) refl,
  omega (arith, c.loop-member.invariant.1),
  omega (arith, c.loop-member.invariant.2, c.if-passed-most.false),
  λ none. absurd (c.is_shown.ensures.asked c.if-is_shown.false none),
)
