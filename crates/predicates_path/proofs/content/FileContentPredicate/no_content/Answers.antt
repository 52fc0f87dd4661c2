use Rattle.std.proofs.Common.{refl}
use Rattle.predicates_core.proofs.Leaves.{HasTruth-exactly, IsCaseOf-showing_both}
use Rattle.predicates_path.proofs.content.FileContentPredicate.no_content.Goals as goal

pub returns : goal.returns
returns g c = IsCaseOf-showing_both c.in_ok-case.ensures c.in_ok-show_fault.ensures c.leaf_node-node.ensures c.in_ok-printed.ensures (HasTruth-exactly refl)
