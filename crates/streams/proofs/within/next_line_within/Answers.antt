use Rattle.std.proofs.Common.{ℕ, List, ◌++◌, Ok, ap, arith}
use Rattle.streams.specs.Steps.{IsInside}
use Rattle.streams.proofs.Parts.{on_err, none_if_empty, some_if_not_empty, inside_both, whole_line, whole_long, whole_none, passed_long}
use Rattle.streams.proofs.within.next_line_within.Goals as goal

pub returns-in_err-pass_rest-clause-inside : goal.returns-in_err-pass_rest-clause-inside
returns-in_err-pass_rest-clause-inside g c =
    let front = c.in_ok-take_front.ensures.front in
    let rest = c.in_err-pass_rest.ensures.rest.inside in
    let taken : (bytes : List ℕ) × IsInside (g.R.Read.remaining c.args.input.now) (g.R.Read.remaining c.pass_rest.new.input) bytes =
    (c.take_front.new.line.items ++ rest.0, inside_both _ _ _ _ _ (front.inside (λ e. cc c.if-not-branch.true)) rest.1) in
    on_err _ _ taken

pub returns-in_ok-pass_rest-clause-too_long : goal.returns-in_ok-pass_rest-clause-too_long
returns-in_ok-pass_rest-clause-too_long g c =
    let front = c.in_ok-take_front.ensures.front in
    λ _. passed_long _ _ _ _ _ (front.inside (λ e. cc c.if-not-branch.true)) (front.long (ap Ok c.if-not-branch.true)) c.in_ok-pass_rest.ensures.rest.whole

pub returns-then-len-limit-clause-too_long : goal.returns-then-len-limit-clause-too_long
returns-then-len-limit-clause-too_long g c =
    λ _. whole_long _ _ _ (c.in_ok-take_front.ensures.front.whole (ap Ok c.if-not-branch.false)) c.args.limit
    (omega (arith, c.if-len-limit.true, c.len.ensures, c.take_front.new.line.ok.0))

pub returns-then-is_empty-clause-end : goal.returns-then-is_empty-clause-end
returns-then-is_empty-clause-end g c =
    λ _. whole_none _ _ _ (c.in_ok-take_front.ensures.front.whole (ap Ok c.if-not-branch.false))
    (omega (arith, none_if_empty _ _ c.is_empty.ensures c.if-is_empty.true, c.take_front.new.line.ok.0))

pub returns-else-is_empty-clause-line : goal.returns-else-is_empty-clause-line
returns-else-is_empty-clause-line g c =
    λ _. whole_line _ _ _ (c.in_ok-take_front.ensures.front.whole (ap Ok c.if-not-branch.false))
    (omega (arith, some_if_not_empty _ _ c.is_empty.ensures c.if-is_empty.false, c.take_front.new.line.ok.0))
