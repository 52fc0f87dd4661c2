use Rattle.std.proofs.Common.{true≢false, rules, arith, sym, subst, get_or}
use Rattle.std.proofs.ByRecursion.{All-get_or}
use Rattle.std.proofs.lemmas.List.{take_more}
use Rattle.predicates_require.specs.Told.{HasFailures}
use Rattle.predicates_require.specs.Expected.{expected, IsMetInfallibly, IsFailure}
use Rattle.predicates_require.proofs.Telling.{failures_held, failures_more, no_case}
use Rattle.predicates_require.proofs.expectation.check_all.Goals as goal
use Rattle.predicates_require.proofs.expectation.check_all.Goals.{in-Some+in_ok-label+in_ok-push, in_default}

pub loop-expectation-preserved : goal.loop-expectation-preserved
loop-expectation-preserved g c =
    let all = c.args.expectations.now in
    let place = c.loop-expectation.expectation-index in
    let e = c.expectation-item.result in
    let F = expected g.P.Predicate.formula in
    let R = IsFailure g.P.Predicate.formula in
    subst (λ es. HasFailures F R es c.match-branch-2.failures.items) (sym (take_more all place e (omega arith)))
    (elim c.match-branch-2.branch [
      | in-Some+in_ok-label+in_ok-push w ↦ search (rules, failures_more F R (get_or all place e) (record { label = w.in_ok-label.label; reason = w.in-Some.reason }) c.loop-expectation.invariant)
      | in_default w ↦ search (rules, failures_held F R (get_or all place e) c.loop-expectation.invariant)
    ])

pub returns-in_err-reason-clause-infallible : goal.returns-in_err-reason-clause-infallible
returns-in_err-reason-clause-infallible g c = λ all.
    let met = subst (IsMetInfallibly g.P.Predicate.infallible g.P.Predicate.formula) (sym c.expectation-item.is) (All-get_or _ c.args.expectations.now c.loop-expectation.expectation-index _ c.loop-expectation-test.true all) in
    absurd (true≢false (sym (c.in_err-reason.ensures.infallible met.0 met.1.0 met.1.1 met.1.2)))

pub returns-in_err-label-clause-infallible : goal.returns-in_err-label-clause-infallible
returns-in_err-label-clause-infallible g c = λ all.
    let met = subst (IsMetInfallibly g.P.Predicate.infallible g.P.Predicate.formula) (sym c.expectation-item.is) (All-get_or _ c.args.expectations.now c.loop-expectation.expectation-index _ c.loop-expectation-test.true all) in
    absurd (no_case g.P.Predicate.infallible g.P.Predicate.formula c.expectation-item.result.item c.expectation-item.result.check _ _ met c.in_ok-reason.ensures.answer c.in-Some.is)

pub returns-in_err-push-clause-infallible : goal.returns-in_err-push-clause-infallible
returns-in_err-push-clause-infallible g c = λ all.
    let met = subst (IsMetInfallibly g.P.Predicate.infallible g.P.Predicate.formula) (sym c.expectation-item.is) (All-get_or _ c.args.expectations.now c.loop-expectation.expectation-index _ c.loop-expectation-test.true all) in
    absurd (no_case g.P.Predicate.infallible g.P.Predicate.formula c.expectation-item.result.item c.expectation-item.result.check _ _ met c.in_ok-reason.ensures.answer c.in-Some.is)
