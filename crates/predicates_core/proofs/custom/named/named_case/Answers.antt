use Rattle.std.proofs.Common.{rules}
use Rattle.predicates_core.proofs.CombinedLemmas.{HasTruth-named, IsCaseOf-named}
use Rattle.predicates_core.proofs.custom.named.named_case.Goals as goal

pub returns-in_default : goal.returns-in_default
returns-in_default g c = HasTruth-named (rw c.in_default.is at c.in_ok-part.ensures)

pub returns : goal.returns
returns g c = IsCaseOf-named c.in_ok-named_node.ensures (search rules) (rw c.in-Some.is at c.in_ok-part.ensures)
