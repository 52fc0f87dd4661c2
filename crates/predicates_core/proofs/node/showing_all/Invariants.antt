use Rattle.std.proofs.Common.{◌≡◌}
use Rattle.predicates_core.specs.Details.{with_products}
use Rattle.predicates_core.proofs.node.showing_all.Given as goal

abbrev pub invariant-loop-product : goal.invariant-loop-product
invariant-loop-product l = l.shown ≡ with_products l.fn.case l.yielded
