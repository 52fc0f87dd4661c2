use Rattle.predicates_core.specs.Kinds.{reasons}
use Rattle.predicates_core.proofs.Found.{nothing_of_not, found_of_not}
use Rattle.predicates_core.proofs.custom.not.not_explained.Goals as goal

pub returns-in_default : goal.returns-in_default
returns-in_default g c = nothing_of_not reasons _ _ c.args.wanted (rw (← c.opposite_of.ensures, ← c.in_default.is) c.in_ok-part.ensures)

pub returns : goal.returns
returns g c = found_of_not reasons _ _ c.args.wanted (rw (c.result-outcome.ensures, c.root.ensures.value) at c.in_ok-unary_node.ensures) c.in_ok-text.ensures (rw (← c.opposite_of.ensures, ← c.in-Some.is) c.in_ok-part.ensures)
