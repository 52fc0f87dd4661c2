use Rattle.std.proofs.Common.{rules}
use Rattle.predicates_core.proofs.Leaves.{IsCaseOf-showing, HasTruth-exactly}
use Rattle.tests_uses.proofs.answer.IsTheAnswerPredicateU32.find_case.Goals as goal

pub returns : goal.returns
returns c = IsCaseOf-showing c.in_ok-showing_item.ensures c.leaf_node-case.ensures (search rules) (HasTruth-exactly (search rules))
