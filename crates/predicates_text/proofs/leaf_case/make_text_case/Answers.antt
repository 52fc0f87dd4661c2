use Rattle.std.proofs.Common.{rules}
use Rattle.predicates_core.proofs.Leaves.{IsCaseOf-showing, HasTruth-exactly}
use Rattle.predicates_text.proofs.leaf_case.make_text_case.Goals as goal

pub returns : goal.returns
returns g c =
    let shown = rw c.deref.ensures at c.in_ok-showing_text.ensures in
    IsCaseOf-showing shown c.leaf_node-case.ensures c.in_ok-printed.ensures (HasTruth-exactly (search rules))
