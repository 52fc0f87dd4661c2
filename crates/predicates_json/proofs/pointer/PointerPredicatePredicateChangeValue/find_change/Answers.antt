use Rattle.std.proofs.Common.{rules}
use Rattle.predicates_core.specs.Kinds.{changes}
use Rattle.predicates_json.proofs.PointerCases.{none_at, case_at}
use Rattle.predicates_json.proofs.pointer.PointerPredicatePredicateChangeValue.find_change.Goals as goal

pub returns-in_default : goal.returns-in_default
returns-in_default g c = none_at changes _ _ c.args.wanted (rw (c.value_at-value.ensures.found, c.text.ensures, c.in_default.is) at c.in_ok-change.ensures)

pub returns : goal.returns
returns g c = case_at changes _ _ c.args.wanted (rw (c.result-outcome.ensures, c.root.ensures.value) at c.in_ok-unary_node.ensures) (search rules) (rw (c.value_at-value.ensures.found, c.text.ensures, c.in-Some.is) at c.in_ok-change.ensures)
