use Rattle.predicates_core.proofs.Leaves.{other_leaf}
use Rattle.predicates_core.proofs.Found.{case_wanted}
use Rattle.predicates_tree.proofs.view.absent_found.Goals as goal

pub returns-then-is_other : goal.returns-then-is_other
returns-then-is_other g c = other_leaf _ _ c.args.wanted (rw (← c.is_other.ensures) c.if-is_other.true)

pub returns : goal.returns
returns g c = case_wanted c.args.wanted c.in_ok-absent_case.ensures (rw (← c.is_other.ensures) c.if-is_other.false)
