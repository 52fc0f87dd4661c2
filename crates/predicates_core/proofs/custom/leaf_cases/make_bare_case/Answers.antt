use Rattle.std.proofs.Common.{rules}
use Rattle.predicates_core.proofs.Leaves.{IsCaseOf-leaf, HasTruth-exactly}
use Rattle.predicates_core.proofs.custom.leaf_cases.make_bare_case.Goals as goal

pub returns : goal.returns
returns g c = IsCaseOf-leaf c.leaf_node.ensures (search rules) (HasTruth-exactly (search rules))
