use Rattle.std.proofs.Common.{take, ◌≤◌}
use Rattle.predicates_core.specs.Tally.{AreCounted}
use Rattle.predicates_core.proofs.custom.threshold.front_of.Given as goal

abbrev pub invariant-loop-member : goal.invariant-loop-member
invariant-loop-member g l = AreCounted (g.A.Ask.formula_of l.common) (take l.member-index l.members) l.held l.failed
    × (l.held ≤ l.spare.held) × (l.failed ≤ l.spare.failed)
