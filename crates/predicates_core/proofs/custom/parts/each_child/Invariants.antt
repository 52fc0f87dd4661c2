use Rattle.std.proofs.Common.{take}
use Rattle.predicates_core.specs.Parts.{FitsParts, part_of_each}
use Rattle.predicates_core.specs.Tree.{forest}
use Rattle.predicates_core.proofs.custom.parts.each_child.Given as goal

abbrev pub invariant-loop-part : goal.invariant-loop-part
invariant-loop-part g l = FitsParts (part_of_each l.name g.P.Display.output g.P.PredicateReflection.parameters_of g.P.PredicateReflection.children_of (take l.part-index l.parts)) (forest l.children.items)
