use Rattle.std.proofs.Common.{length, take, ◌-◌}
use Rattle.predicates_core.specs.Tally.{IsTallyOf}
use Rattle.predicates_core.proofs.custom.threshold.counted_on.Given as goal

abbrev pub invariant-loop-list : goal.invariant-loop-list
invariant-loop-list g l = IsTallyOf l.fn.tally.sought (g.W.Display.output l.list.whole.now) l.list.name.now (g.A.Ask.formula_of l.common) (take l.tally.seen l.members) l.tally

abbrev pub decreases-loop-list : goal.decreases-loop-list
decreases-loop-list g l = length l.members - l.tally.seen
