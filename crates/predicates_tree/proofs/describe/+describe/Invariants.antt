use Rattle.std.proofs.Common.{take}
use Rattle.predicates_core.specs.Parts.{FitsParts, part_of_each}
use Rattle.predicates_core.specs.Tree.{forest}
use Rattle.predicates_tree.specs.Formulas.{check_text}
use Rattle.predicates_tree.specs.Described.{check_parameters, check_parts}
use Rattle.predicates_tree.proofs.describe.+describe.Given as goal

abbrev pub invariant-each_part-loop-part : goal.invariant-each_part-loop-part
invariant-each_part-loop-part g l = FitsParts (part_of_each l.name (check_text g.L.Display.output g.V.Display.output g.S.Wording.words) (check_parameters g.L.PredicateReflection.parameters_of g.S.Wording.words) (check_parts g.L.Display.output g.V.Display.output g.L.PredicateReflection.parameters_of g.L.PredicateReflection.children_of g.S.Wording.words) (take l.part-index l.parts)) (forest l.children.items)
