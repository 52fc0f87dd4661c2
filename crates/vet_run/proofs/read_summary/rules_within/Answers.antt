use Rattle.std.proofs.Common.{◌≡◌, ◌∙◌, Some, None, sym, ap, arith, rules}
use Rattle.std.specs.Prelude.{option_map}
use Rattle.serde_json.specs.View.{view}
use Rattle.vet_run.specs.Sums.{named_of, rule_within}
use Rattle.vet_run.proofs.Sums.{no_rules, rules_next}
use Rattle.vet_run.proofs.read_summary.rules_within.Goals as goal

pub returns-in-None : goal.returns-in-None
returns-in-None c =
    let none : c.in_ok-rule.field-0 ≡ None = search rules in
    sym (no_rules c.args.values.now c.loop-value.value-index c.value-item.result (omega arith)
    (ap (λ v. rule_within (view v)) (sym c.value-item.is) ∙ sym c.in_ok-rule.ensures ∙ ap (option_map named_of) none))

pub loop-value-preserved : goal.loop-value-preserved
loop-value-preserved c =
    let some : c.in_ok-rule.field-0 ≡ Some c.in-Some.rule = search rules in
    rules_next c.args.values.now c.loop-value.value-index c.value-item.result c.loop-value.rules.items c.push.new.self.items c.in-Some.rule
    (omega arith) c.value-item.is c.loop-value.invariant (sym c.in_ok-rule.ensures ∙ ap (option_map named_of) some) c.in_ok-push-in-Some.ensures.items
