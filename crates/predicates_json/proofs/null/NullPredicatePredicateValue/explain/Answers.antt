use Rattle.std.proofs.Common.{rules}
use Rattle.serde_json.specs.View.{view}
use Rattle.predicates_core.proofs.Found.{none_wanted, case_wanted}
use Rattle.predicates_json.proofs.NullCases.{HasTruth-null, IsCaseOf-null, IsCaseOf-not_null}
use Rattle.predicates_json.proofs.null.NullPredicatePredicateValue.explain.Goals as goal

pub returns-then-is_other : goal.returns-then-is_other
returns-then-is_other c = none_wanted c.args.wanted (HasTruth-null (view c.args.item.now) c.is_null-holds.result (search rules)) (rw (← c.is_other.ensures) c.if-is_other.true)

pub returns-then-holds : goal.returns-then-holds
returns-then-holds c = case_wanted c.args.wanted {h = c.is_null-holds.result} (IsCaseOf-null (view c.args.item.now) (search rules) (search rules) c.leaf_node.ensures c.in_ok-printed.ensures) (rw (← c.is_other.ensures) c.if-is_other.false)

pub returns : goal.returns
returns c = case_wanted c.args.wanted {h = c.is_null-holds.result} (IsCaseOf-not_null (view c.args.item.now) (search rules) (search rules) (search rules)) (rw (← c.is_other.ensures) c.if-is_other.false)
