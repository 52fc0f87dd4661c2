use Rattle.std.proofs.Common.{refl}
use Rattle.predicates_core.proofs.Leaves.{HasTruth-exactly, IsCaseOf-leaf}
use Rattle.vet_checks.proofs.leaf.bare_leaf.Goals as goal

pub returns : goal.returns
returns c = IsCaseOf-leaf c.in_ok-node.ensures refl (HasTruth-exactly refl)
