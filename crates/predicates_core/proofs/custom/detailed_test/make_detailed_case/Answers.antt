use Rattle.std.proofs.Common.{refl}
use Rattle.predicates_core.proofs.Details.{IsCaseOf-details}
use Rattle.predicates_core.proofs.custom.detailed_test.make_detailed_case.Goals as goal

pub returns : goal.returns
returns g c = IsCaseOf-details _ _ c.in_ok-showing_all.ensures c.in_ok-products.ensures c.in_ok-case.ensures c.leaf_node-bare.ensures c.in_ok-printed.ensures refl
