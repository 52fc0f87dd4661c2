use Rattle.vet_checks.specs.RuleChecks.{name_of}
use Rattle.predicates_core.specs.Kinds.{changes}
use Rattle.vet_checks.proofs.Ruling.{none_of_rule, case_of_rule}
use Rattle.vet_checks.proofs.rule_check.RuleCheckPredicateChangeValue.find_change.Goals as goal

pub returns-in_default : goal.returns-in_default
returns-in_default c = none_of_rule changes _ _ c.args.wanted (rw c.in_default.is at c.in_ok-case.ensures)

pub returns : goal.returns
returns c = case_of_rule changes (name_of c.args.self.now) _ c.args.wanted c.in_ok-node.ensures (rw c.in-Some.is at c.in_ok-case.ensures)
