use Rattle.std.proofs.Common.{codes, map}
use Rattle.predicates_core.proofs.ThresholdCases.{threshold_verdict_of}
use Rattle.predicates_boolean.specs.Rules.{least_of_rules, rules_of, rules_text}
use Rattle.predicates_boolean.proofs.rules.RulesPredicatePredicate.eval.Goals as goal

pub returns-clause-truth : goal.returns-clause-truth
returns-clause-truth g c =
    let rules = rules_of c.args.self.now in
    threshold_verdict_of (least_of_rules g.Q.Quantifier.how_many c.args.self.now) (rules_text (g.Q.Quantifier.how_many c.args.self.now.quantifier) (map g.P.Display.output rules)) (codes "rule") (λ p. g.P.Predicate.formula p c.args.item.now) rules c.parts_hold.result
    (rw (c.as_slice.ensures.value, c.least.ensures) at c.parts_hold.ensures.truth)
