use Rattle.vet_checks.proofs.Ruling.{HasTruth-rule}
use Rattle.vet_checks.proofs.rule_check.RuleCheck.holds.Goals as goal

pub returns : goal.returns
returns c = HasTruth-rule _ _ c.in_ok-holds.ensures
