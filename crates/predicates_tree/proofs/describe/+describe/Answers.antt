use Rattle.std.proofs.Common.{arith, sym, ◌∙◌}
use Rattle.std.proofs.lemmas.List.{take_all}
use Rattle.predicates_core.proofs.EachPart.{fits_more}
use Rattle.predicates_tree.specs.Formulas.{check_text}
use Rattle.predicates_tree.specs.Described.{check_parameters, check_parts}
use Rattle.predicates_tree.proofs.Listing.{each_described, no_parts}
use Rattle.predicates_tree.proofs.describe.+describe.Goals as goal

pub parts_children-returns-clause-fits : goal.parts_children-returns-clause-fits
parts_children-returns-clause-fits g t c = rw c.requires (rw (each_described g.L.Display.output g.V.Display.output g.S.Wording.words g.L.PredicateReflection.parameters_of g.L.PredicateReflection.children_of _ c.args.parts.now) (rw c.part.ensures at c.each_part.ensures.fits))

pub parts_children-returns-clause-none : goal.parts_children-returns-clause-none
parts_children-returns-clause-none g t c = λ none. c.each_part.ensures.none (no_parts g.L.Display.output g.V.Display.output g.S.Wording.words g.L.PredicateReflection.parameters_of g.L.PredicateReflection.children_of _ c.args.parts.now (sym c.requires ∙ none))

pub each_part-loop-part-init : goal.each_part-loop-part-init
each_part-loop-part-init g t c = rw c.new-children.ensures.items tt

pub each_part-loop-part-preserved : goal.each_part-loop-part-preserved
each_part-loop-part-preserved g t c = rw c.in_ok-push.ensures.items (fits_more c.args.name.now (check_text g.L.Display.output g.V.Display.output g.S.Wording.words) (check_parameters g.L.PredicateReflection.parameters_of g.S.Wording.words) (check_parts g.L.Display.output g.V.Display.output g.L.PredicateReflection.parameters_of g.L.PredicateReflection.children_of g.S.Wording.words)
    c.args.parts.now c.loop-part.part-index c.part-item.result c.loop-part.children.items _ (omega arith) c.part-item.is c.loop-part.invariant c.in_ok-described.ensures)

pub each_part-returns-clause-fits : goal.each_part-returns-clause-fits
each_part-returns-clause-fits g t c = rw (take_all c.loop-part.part-index c.args.parts.now (omega arith)) at c.loop-part.invariant
