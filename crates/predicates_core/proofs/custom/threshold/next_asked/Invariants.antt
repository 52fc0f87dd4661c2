use Rattle.std.proofs.Common.{take, ◌≤◌, ◌≡◌, None}
use Rattle.std.specs.Prelude.{not}
use Rattle.predicates_core.specs.Tally.{AreCounted, held_of}
use Rattle.predicates_core.proofs.custom.threshold.next_asked.Given as goal

abbrev pub invariant-loop-member : goal.invariant-loop-member
invariant-loop-member g l = AreCounted (g.A.Ask.formula_of l.common) (take l.member-index l.members) (held_of l.other l.passed) (held_of (not l.other) l.passed)
    × (l.passed ≡ l.member-index) × (l.passed ≤ l.most) × (l.asked ≡ None → l.passed ≡ 0)
