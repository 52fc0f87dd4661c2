use Rattle.std.proofs.Common.{take}
use Rattle.predicates_tree.specs.Formulas.{Has, HasOn}
use Rattle.predicates_tree.specs.Kept.{AreSteps}
use Rattle.predicates_tree.proofs.Counted.{Counted}
use Rattle.predicates_tree.proofs.hold.+hold.Given as goal

abbrev pub invariant-parts_hold-loop-index : goal.invariant-parts_hold-loop-index
invariant-parts_hold-loop-index g l = Counted (Has g.L.Display.output g.V.Display.output g.L.Predicate.formula g.V.View.gives g.V.View.absence_of g.S.Wording.words l.item) (take l.index l.parts) l.held
    × AreSteps g.L.EvaluateWith.keeps l.fn.context l.context

abbrev pub invariant-members_hold-loop-index : goal.invariant-members_hold-loop-index
invariant-members_hold-loop-index g l = Counted (HasOn g.L.Display.output g.V.Display.output g.L.Predicate.formula g.V.View.gives g.V.View.absence_of g.S.Wording.words l.inner) (take l.index l.members) l.held
    × AreSteps g.L.EvaluateWith.keeps l.fn.context l.context
