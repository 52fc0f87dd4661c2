use Rattle.predicates_core.proofs.Leaves.{other_leaf, leaf_wanted}
use Rattle.predicates_core.proofs.custom.detailed_test.detailed_case.Goals as goal

pub returns-then-is_other : goal.returns-then-is_other
returns-then-is_other g c = other_leaf _ _ c.args.wanted (rw (← c.is_other.ensures) c.if-is_other.true)

pub returns : goal.returns
returns g c = leaf_wanted _ _ c.args.wanted c.make_detailed_case.result (rw (← c.is_other.ensures) c.if-is_other.false) c.make_detailed_case.ensures
