use Rattle.std.proofs.Common.{rules}
use Rattle.predicates_core.proofs.CombinedLemmas.{IsCaseOf-not}
use Rattle.predicates_core.proofs.custom.not.not_case.Goals as goal

pub returns : goal.returns
returns g c = IsCaseOf-not c.in_ok-unary_node.ensures (search rules) (search rules)
