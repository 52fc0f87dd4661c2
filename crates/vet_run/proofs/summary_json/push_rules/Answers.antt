use Rattle.std.proofs.Common.{arith}
use Rattle.vet_run.specs.Sums.{named_of, rule_json}
use Rattle.vet_run.proofs.Listing.{later_more, listed_more}
use Rattle.vet_run.proofs.summary_json.push_rules.Goals as goal

pub loop-rule-preserved : goal.loop-rule-preserved
loop-rule-preserved c = record {
  later = later_more c.args.rules.now c.loop-rule.rule-index c.rule-item.result (omega arith) c.rule-item.is;
  text = listed_more (λ r. rule_json (named_of r)) c.args.rules.now c.loop-rule.rule-index c.rule-item.result c.loop-rule.later _ _ _ _ (omega arith) c.rule-item.is c.loop-rule.invariant.later c.loop-rule.invariant.text c.in_ok-push_comma.ensures c.in_ok-push_rule.ensures;
}
