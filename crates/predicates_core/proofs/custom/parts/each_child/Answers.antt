use Rattle.std.proofs.Common.{arith}
use Rattle.std.proofs.lemmas.List.{take_all}
use Rattle.predicates_core.proofs.EachPart.{fits_more}
use Rattle.predicates_core.proofs.custom.parts.each_child.Goals as goal

pub loop-part-init : goal.loop-part-init
loop-part-init g c = rw c.new-children.ensures.items tt

pub loop-part-preserved : goal.loop-part-preserved
loop-part-preserved g c = rw c.in_ok-push.ensures.items (fits_more c.args.name.now g.P.Display.output g.P.PredicateReflection.parameters_of g.P.PredicateReflection.children_of
    c.args.parts.now c.loop-part.part-index c.part-item.result c.loop-part.children.items _ (omega arith) c.part-item.is c.loop-part.invariant c.in_ok-describe.ensures)

pub returns-clause-fits : goal.returns-clause-fits
returns-clause-fits g c = rw (take_all c.loop-part.part-index c.args.parts.now (omega arith)) at c.loop-part.invariant
