use Rattle.std.proofs.Common.{rules, arith, ◌+◌, drop, take}
use Rattle.explain_run.specs.CommandLine.{typed}
use Rattle.explain_words.proofs.Postfix.{Makes-more}
use Rattle.explain_run.proofs.CommandLine.{first_fault, typed-more, typed-around}
use Rattle.explain_run.proofs.program.read.read_checks.Goals as goal

pub returns-in_err-take_token-clause-fault : goal.returns-in_err-take_token-clause-fault
returns-in_err-take_token-clause-fault c =
    let tokens = c.args.tokens.now in
    let i = c.loop-token.token-index in
    let around = typed-around tokens i c.token-item.result (omega arith) c.token-item.is in
    let fault = first_fault (typed tokens) (typed (take i tokens)) c.token-item.result.items (typed (drop (i + 1) tokens)) c.loop-token.checks.items c.in_err-take_token.field-0.0
    around c.loop-token.invariant.0 (rw c.deref.ensures.value at c.in_err-take_token.ensures.fault) in
    search (rules, fault)

pub loop-token-preserved : goal.loop-token-preserved
loop-token-preserved c =
    let same = typed-more c.args.tokens.now c.loop-token.token-index c.token-item.result (omega arith) c.token-item.is in
    let made = rw c.deref.ensures.value at c.in_ok-take_token.ensures.made in
    (rw same (Makes-more _ _ _ _ _ c.loop-token.invariant.0 made), search rules)
