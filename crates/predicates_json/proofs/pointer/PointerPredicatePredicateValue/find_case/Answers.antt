use Rattle.std.proofs.Common.{rules}
use Rattle.predicates_json.proofs.PointerCases.{HasTruth-at, IsCaseOf-at}
use Rattle.predicates_json.proofs.pointer.PointerPredicatePredicateValue.find_case.Goals as goal

pub returns-in_default : goal.returns-in_default
returns-in_default g c = HasTruth-at (rw (c.value_at-value.ensures.found, c.text.ensures, c.in_default.is) at c.in_ok-case.ensures)

pub returns : goal.returns
returns g c = IsCaseOf-at c.in_ok-unary_node.ensures (search rules) (rw (c.value_at-value.ensures.found, c.text.ensures, c.in-Some.is) at c.in_ok-case.ensures)
