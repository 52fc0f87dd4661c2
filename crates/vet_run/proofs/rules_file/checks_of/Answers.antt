use Rattle.std.proofs.Common.{rules, ◌≡◌, ◌∷◌, ◌++◌, [], sym, ap, ◌∙◌, append_assoc}
use Rattle.std.proofs.lemmas.Result.{err_from_is_err_and}
use Rattle.vet_rules.specs.Rules.{rule_of}
use Rattle.vet_run.specs.RulesFile.{IsCheckOf}
use Rattle.vet_run.proofs.Reading.{zip_more, zip_all}
use Rattle.vet_run.proofs.Rejecting.{failure_in}
use Rattle.vet_run.proofs.rules_file.checks_of.Goals as goal

pub loop-rule-init : goal.loop-rule-init
loop-rule-init c = (sym c.into_iter-rule-iterator.ensures.into_iter_gives.0, rw c.new-checks.ensures.items tt)

pub loop-rule-preserved : goal.loop-rule-preserved
loop-rule-preserved c = (
  c.loop-rule.invariant.0 ∙ ap (λ r. c.loop-rule.yielded ++ r) (search rules) ∙ sym (append_assoc c.loop-rule.yielded (c.in-Some.rule ∷ []) c.next.new.self.rest.items),
  rw c.in_ok-push.ensures.items (zip_more IsCheckOf rule_of c.loop-rule.yielded c.loop-rule.checks.items c.in-Some.rule c.in_ok-rule_check.field-0 c.loop-rule.invariant.1 c.in_ok-rule_check.ensures.made),
)

pub returns-clause-made : goal.returns-clause-made
returns-clause-made c = zip_all IsCheckOf rule_of c.args.rules.items c.loop-rule.yielded c.loop-rule.rule-iterator.rest.items c.loop-rule.checks.items c.loop-rule.invariant.0 (search rules) c.loop-rule.invariant.1

pub returns-in_err-rule_check-clause-refused : goal.returns-in_err-rule_check-clause-refused
returns-in_err-rule_check-clause-refused c =
    let is : c.args.rules.items ≡ c.loop-rule.yielded ++ c.in-Some.rule ∷ c.next.new.self.rest.items = c.loop-rule.invariant.0 ∙ ap (λ r. c.loop-rule.yielded ++ r) (search rules) in
    let p = err_from_is_err_and c.from_residual.result c.from_residual.ensures.1 in
    rw (p.1, p.2) (failure_in c.args.rules.items c.loop-rule.yielded c.in-Some.rule c.next.new.self.rest.items c.in_err-rule_check.field-0.0 is c.in_err-rule_check.ensures.refused)
