use Rattle.std.proofs.Common.{◌≡◌, ◌<◌, length, arith}
use Rattle.std.proofs.lemmas.Grind.{common_steps}
use Rattle.std.proofs.lemmas.List.{nil_from_length}
use Rattle.predicates_require.specs.Expected.{expected, IsFailure, IsMetInfallibly}
use Rattle.predicates_require.proofs.Telling.{all_hold, not_all_hold}
use Rattle.predicates_require.proofs.expectation.require_all.Goals as goal

pub returns-then-is_empty-clause-met : goal.returns-then-is_empty-clause-met
returns-then-is_empty-clause-met g c =
    let formula = g.P.Predicate.formula in
    let failures = c.in_ok-failures.failures in
    let none : length failures.items ≡ 0 = grind (arith, common_steps, failures.ok.0, c.is_empty.ensures, c.if-is_empty.true) in
    all_hold (expected formula) (IsFailure formula) c.args.expectations.now failures.items c.in_ok-failures.ensures.failing (nil_from_length failures.items none)

pub returns-in_err-lines_of-clause-infallible : goal.returns-in_err-lines_of-clause-infallible
returns-in_err-lines_of-clause-infallible g c met =
    let formula = g.P.Predicate.formula in
    let failures = c.in_ok-failures.failures in
    let some : 0 < length failures.items = grind (arith, common_steps, failures.ok.0, c.is_empty.ensures, c.if-is_empty.false) in
    absurd (not_all_hold (expected formula) (IsFailure formula) (IsMetInfallibly g.P.Predicate.infallible formula) (λ e m. m.1) c.args.expectations.now failures.items c.in_ok-failures.ensures.failing some met)

pub returns-clause-infallible : goal.returns-clause-infallible
returns-clause-infallible g c met =
    let formula = g.P.Predicate.formula in
    let failures = c.in_ok-failures.failures in
    let some : 0 < length failures.items = grind (arith, common_steps, failures.ok.0, c.is_empty.ensures, c.if-is_empty.false) in
    absurd (not_all_hold (expected formula) (IsFailure formula) (IsMetInfallibly g.P.Predicate.infallible formula) (λ e m. m.1) c.args.expectations.now failures.items c.in_ok-failures.ensures.failing some met)
