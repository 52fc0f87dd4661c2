use Rattle.std.proofs.Common.{◌≢◌, Ok, Err, ap, arith}
use Rattle.std.proofs.lemmas.Result.{err_from_is_err_and}
use Rattle.streams.specs.declared.run_fault.RunFault.TheVariants.{Input, Output}
use Rattle.explain_run.proofs.Filtering.{has_passed_none, has_passed_more, has_passed_all, written_within, not_utf8_within}
use Rattle.explain_run.proofs.Filtering.{behind_more, behind_all, until_input, until_output, until_memory}
use Rattle.explain_run.proofs.run.run_lines.Goals as goal

pub loop-taken-init : goal.loop-taken-init
loop-taken-init g c = has_passed_none (g.J.JudgeLine.is_verdict c.args.judge.now) (g.J.JudgeLine.is_kept c.args.judge.now) (g.J.JudgeLine.is_told c.args.judge.now) _ _ _

pub count-counts-requires-clause-written : goal.count-counts-requires-clause-written
count-counts-requires-clause-written g c = omega (arith, written_within _ _ _ c.loop-taken.invariant, c.loop-taken-test.true)

pub count-counts-requires-clause-not_utf8 : goal.count-counts-requires-clause-not_utf8
count-counts-requires-clause-not_utf8 g c = omega (arith, not_utf8_within _ _ _ c.loop-taken.invariant, c.loop-taken-test.true)

pub loop-taken-preserved : goal.loop-taken-preserved
loop-taken-preserved g c =
    has_passed_more _ _ _ _ _ _ _ _ _ _ _ _ _ _ _ c.next_line.new.line.items _
    _ c.loop-taken.invariant
    (c.in_ok-next_line.ensures.more (ap Ok c.if-not-branch.false))
    (rw c.as_slice-bytes.ensures.value at c.in_ok-verdict.ensures.verdict)
    (rw (c.as_slice-bytes.ensures.value, c.keeps-kept.ensures) at c.in_ok-write_if.ensures.written)
    (rw c.as_slice-bytes.ensures.value at c.in_ok-verdict.ensures.told)
    (rw c.as_bytes.ensures.value at c.in_ok-write_bytes.ensures.written)
    (rw c.keeps-kept.ensures at c.count-counts.ensures.written) c.count-counts.ensures.not_utf8

pub returns-then-not-branch-clause-run : goal.returns-then-not-branch-clause-run
returns-then-not-branch-clause-run g c =
    has_passed_all _ _ _ _ _ _ _ _ _ _ _ _ _ _ c.loop-taken.invariant
    (c.in_ok-next_line.ensures.end (ap Ok c.if-not-branch.true)) c.in_ok-flush.ensures.kept c.in_ok-flush-2.ensures.kept

pub returns-clause-run : goal.returns-clause-run
returns-clause-run g c =
    has_passed_all _ _ _ _ _ _ _ _ _ _ _ _ _ _ c.loop-taken.invariant
    (c.in_ok-next_line-2.ensures.end (ap Ok c.if-branch.false)) c.in_ok-flush-3.ensures.kept c.in_ok-flush-4.ensures.kept

pub returns-in_err-next_line-clause-fault : goal.returns-in_err-next_line-clause-fault
returns-in_err-next_line-clause-fault g c =
    let other : c.in_err-next_line.field-0.0 ≢ Output = λ e. c.in_err-next_line.ensures.fault (ap Err e) in
    let p = err_from_is_err_and c.from_residual.result c.from_residual.ensures.1 in
    rw (p.1, p.2) (until_input _ _ _ (g.R.Read.remaining c.next_line.new.input) c.loop-taken.invariant other)

pub returns-in_err-flush-clause-fault : goal.returns-in_err-flush-clause-fault
returns-in_err-flush-clause-fault g c =
    let other : c.in_err-flush.field-0.0 ≢ Input = λ e. c.in_err-flush.ensures.fault (ap Err e) in
    let p = err_from_is_err_and c.from_residual-in_err-flush.result c.from_residual-in_err-flush.ensures.1 in
    rw (p.1, p.2) (until_output _ _ _ (behind_all _ _ _ c.loop-taken.invariant (c.in_ok-next_line.ensures.end (ap Ok c.if-not-branch.true))) other _ _ _ _)

pub returns-in_err-flush-2-clause-fault : goal.returns-in_err-flush-2-clause-fault
returns-in_err-flush-2-clause-fault g c =
    let other : c.in_err-flush-2.field-0.0 ≢ Input = λ e. c.in_err-flush-2.ensures.fault (ap Err e) in
    let p = err_from_is_err_and c.from_residual-in_err-flush-2.result c.from_residual-in_err-flush-2.ensures.1 in
    rw (p.1, p.2) (until_output _ _ _ (behind_all _ _ _ c.loop-taken.invariant (c.in_ok-next_line.ensures.end (ap Ok c.if-not-branch.true))) other _ _ _ _)

pub returns-in_err-verdict-clause-fault : goal.returns-in_err-verdict-clause-fault
returns-in_err-verdict-clause-fault g c =
    let p = err_from_is_err_and c.from_residual-in_err-verdict.result c.from_residual-in_err-verdict.ensures.1 in
    rw p.1 (until_memory _ _ _ (behind_more _ _ _ c.loop-taken.invariant (c.in_ok-next_line.ensures.more (ap Ok c.if-not-branch.false))) p.0 p.2 _ _ _ _)

pub returns-in_err-write_if-clause-fault : goal.returns-in_err-write_if-clause-fault
returns-in_err-write_if-clause-fault g c =
    let other : c.in_err-write_if.field-0.0 ≢ Input = λ e. c.in_err-write_if.ensures.fault (ap Err e) in
    let p = err_from_is_err_and c.from_residual-in_err-write_if.result c.from_residual-in_err-write_if.ensures.1 in
    rw (p.1, p.2) (until_output _ _ _ (behind_more _ _ _ c.loop-taken.invariant (c.in_ok-next_line.ensures.more (ap Ok c.if-not-branch.false))) other _ _ _ _)

pub returns-in_err-write_bytes-clause-fault : goal.returns-in_err-write_bytes-clause-fault
returns-in_err-write_bytes-clause-fault g c =
    let other : c.in_err-write_bytes.field-0.0 ≢ Input = λ e. c.in_err-write_bytes.ensures.fault (ap Err e) in
    let p = err_from_is_err_and c.from_residual-in_err-write_bytes.result c.from_residual-in_err-write_bytes.ensures.1 in
    rw (p.1, p.2) (until_output _ _ _ (behind_more _ _ _ c.loop-taken.invariant (c.in_ok-next_line.ensures.more (ap Ok c.if-not-branch.false))) other _ _ _ _)

pub returns-in_err-next_line-2-clause-fault : goal.returns-in_err-next_line-2-clause-fault
returns-in_err-next_line-2-clause-fault g c =
    let other : c.in_err-next_line-2.field-0.0 ≢ Output = λ e. c.in_err-next_line-2.ensures.fault (ap Err e) in
    let p = err_from_is_err_and c.from_residual-in_err-next_line-2.result c.from_residual-in_err-next_line-2.ensures.1 in
    rw (p.1, p.2) (until_input _ _ _ (g.R.Read.remaining c.next_line-2.new.input) c.loop-taken.invariant other)

pub returns-then-branch-clause-fault : goal.returns-then-branch-clause-fault
returns-then-branch-clause-fault g c = until_input _ _ _ _ c.loop-taken.invariant (λ e. absurd (cc))

pub returns-in_err-flush-3-clause-fault : goal.returns-in_err-flush-3-clause-fault
returns-in_err-flush-3-clause-fault g c =
    let other : c.in_err-flush-3.field-0.0 ≢ Input = λ e. c.in_err-flush-3.ensures.fault (ap Err e) in
    let p = err_from_is_err_and c.from_residual-in_err-flush-3.result c.from_residual-in_err-flush-3.ensures.1 in
    rw (p.1, p.2) (until_output _ _ _ (behind_all _ _ _ c.loop-taken.invariant (c.in_ok-next_line-2.ensures.end (ap Ok c.if-branch.false))) other _ _ _ _)

pub returns-in_err-flush-4-clause-fault : goal.returns-in_err-flush-4-clause-fault
returns-in_err-flush-4-clause-fault g c =
    let other : c.in_err-flush-4.field-0.0 ≢ Input = λ e. c.in_err-flush-4.ensures.fault (ap Err e) in
    let p = err_from_is_err_and c.from_residual-in_err-flush-4.result c.from_residual-in_err-flush-4.ensures.1 in
    rw (p.1, p.2) (until_output _ _ _ (behind_all _ _ _ c.loop-taken.invariant (c.in_ok-next_line-2.ensures.end (ap Ok c.if-branch.false))) other _ _ _ _)
