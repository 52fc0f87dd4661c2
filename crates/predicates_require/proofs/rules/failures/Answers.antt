use Rattle.std.proofs.Common.{true≢false, rules, arith, sym, subst, get_or}
use Rattle.std.proofs.ByRecursion.{All-get_or}
use Rattle.std.proofs.lemmas.List.{take_more}
use Rattle.predicates_require.specs.Told.{HasFailures, HoldsInfallibly, Explains, about}
use Rattle.predicates_require.proofs.Telling.{failures_none, failures_held, failures_more, no_case}
use Rattle.predicates_require.proofs.rules.failures.Goals as goal
use Rattle.predicates_require.proofs.rules.failures.Goals.{in-Some+in_ok-push, in_default}

pub loop-rule-init : goal.loop-rule-init
loop-rule-init g c =
    rw c.new-cases.ensures.items (failures_none (about g.P.Predicate.formula c.args.item.now) (Explains (about g.P.Predicate.formula c.args.item.now)))

pub loop-rule-preserved : goal.loop-rule-preserved
loop-rule-preserved g c =
    let all = c.args.rules.now in
    let place = c.loop-rule.rule-index in
    let rule = c.rule-item.result in
    let F = about g.P.Predicate.formula c.args.item.now in
    let R = Explains F in
    subst (λ rs. HasFailures F R rs c.match-branch-2.cases.items) (sym (take_more all place rule (omega arith)))
    (elim c.match-branch-2.branch [
      | in-Some+in_ok-push w ↦ search (rules, failures_more F R (get_or all place rule) w.in-Some.case c.loop-rule.invariant)
      | in_default w ↦ search (rules, failures_held F R (get_or all place rule) c.loop-rule.invariant)
    ])

pub returns-in_err-case-clause-infallible : goal.returns-in_err-case-clause-infallible
returns-in_err-case-clause-infallible g c = λ all.
    let holds = subst (HoldsInfallibly g.P.Predicate.infallible g.P.Predicate.formula c.args.item.now) (sym c.rule-item.is) (All-get_or _ c.args.rules.now c.loop-rule.rule-index _ c.loop-rule-test.true all) in
    absurd (true≢false (sym (c.in_err-case.ensures.infallible holds.0 holds.1.0 holds.1.1 holds.1.2)))

pub returns-in_err-push-clause-infallible : goal.returns-in_err-push-clause-infallible
returns-in_err-push-clause-infallible g c = λ all.
    let holds = subst (HoldsInfallibly g.P.Predicate.infallible g.P.Predicate.formula c.args.item.now) (sym c.rule-item.is) (All-get_or _ c.args.rules.now c.loop-rule.rule-index _ c.loop-rule-test.true all) in
    absurd (no_case g.P.Predicate.infallible g.P.Predicate.formula c.args.item.now c.rule-item.result _ _ holds c.in_ok-case.ensures.answer c.in-Some.is)
