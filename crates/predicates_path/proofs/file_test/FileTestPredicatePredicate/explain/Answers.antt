use Rattle.std.proofs.Common.{sym}
use Rattle.predicates_core.proofs.Leaves.{HasTruth-exactly}
use Rattle.predicates_core.proofs.Found.{none_wanted, case_wanted}
use Rattle.predicates_path.proofs.FileTests.{case_of_file}
use Rattle.predicates_path.proofs.file_test.FileTestPredicatePredicate.explain.Goals as goal

pub returns-then-is_other : goal.returns-then-is_other
returns-then-is_other g c = none_wanted c.args.wanted (HasTruth-exactly (sym c.holds-holds.ensures)) (rw (← c.is_other.ensures) c.if-is_other.true)

pub returns : goal.returns
returns g c = case_wanted c.args.wanted (case_of_file _ c.in_ok-show.ensures c.leaf_node-case.ensures c.in_ok-printed.ensures (sym c.holds-holds.ensures)) (rw (← c.is_other.ensures) c.if-is_other.false)
