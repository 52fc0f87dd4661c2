use Rattle.std.proofs.Common.{rules}
use Rattle.predicates_core.specs.Kinds.{changes}
use Rattle.predicates_core.proofs.Found.{nothing_of_named, found_of_named}
use Rattle.predicates_core.proofs.custom.changes.named_change.Goals as goal

pub returns-in_default : goal.returns-in_default
returns-in_default g c = nothing_of_named changes _ _ c.args.wanted (rw c.in_default.is at c.in_ok-part.ensures)

pub returns : goal.returns
returns g c = found_of_named changes _ _ c.args.wanted (rw (c.result-outcome.ensures, c.root.ensures.value) at c.in_ok-named_node.ensures) (search rules) (rw c.in-Some.is at c.in_ok-part.ensures)
