use Rattle.std.proofs.Common.{rules, refl}
use Rattle.predicates_core.proofs.Leaves.{IsCaseOf-showing_both, HasTruth-exactly, other_leaf}
use Rattle.predicates_core.proofs.Found.{case_wanted}
use Rattle.predicates_text.proofs.leaf_case.count_case.Goals as goal

pub returns-then-is_other : goal.returns-then-is_other
returns-then-is_other g c = other_leaf _ _ c.args.wanted (rw (← c.is_other.ensures) c.if-is_other.true)

pub returns : goal.returns
returns g c =
    let shown = rw c.deref.ensures at c.in_ok-case.ensures in
    case_wanted c.args.wanted (IsCaseOf-showing_both shown (search rules) c.leaf_node-case.ensures c.in_ok-printed.ensures (HasTruth-exactly refl)) (rw (← c.is_other.ensures) c.if-is_other.false)
