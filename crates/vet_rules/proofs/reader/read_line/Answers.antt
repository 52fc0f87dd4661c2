use Rattle.std.proofs.Common.{sym, ◌∙◌, string_bytes}
use Rattle.std.proofs.lemmas.Result.{err_from_is_err_and}
use Rattle.vet_rules.specs.Trees.{tree_of}
use Rattle.vet_rules.proofs.Readings.{only_blank, blank_found, no_head_only, no_head_never, head_fault, no_rule_only, no_rule_never, rule_fault, rule_found, rule_only}
use Rattle.vet_rules.proofs.reader.read_line.Goals as goal

pub returns-then-is_at_end-clause-found : goal.returns-then-is_at_end-clause-found
returns-then-is_at_end-clause-found c = blank_found 100 c.args.line.now c.behind_spaces-front.result.now c.behind_spaces-front.ensures (sym c.is_at_end.ensures ∙ c.if-is_at_end.true)

pub returns-then-is_at_end-clause-only : goal.returns-then-is_at_end-clause-only
returns-then-is_at_end-clause-only c = λ o d. only_blank c.args.line.now c.behind_spaces-front.result.now c.behind_spaces-front.ensures (sym c.is_at_end.ensures ∙ c.if-is_at_end.true) d

pub returns-in_err-name-clause-only : goal.returns-in_err-name-clause-only
returns-in_err-name-clause-only c = λ o d.
    let p = err_from_is_err_and c.from_residual.result c.from_residual.ensures.1 in
    rw (p.1, p.2) (no_head_only c.in_err-name.field-0.0 c.behind_spaces-front.result.now c.behind_spaces-front.ensures (sym c.is_at_end.ensures ∙ c.if-is_at_end.false) c.in_err-name.ensures d)

pub returns-in_err-name-clause-never : goal.returns-in_err-name-clause-never
returns-in_err-name-clause-never c =
    let p = err_from_is_err_and c.from_residual.result c.from_residual.ensures.1 in
    rw (p.1, p.2) (λ x n o d. no_head_never c.in_err-name.field-0.0 c.behind_spaces-front.result.now c.behind_spaces-front.ensures (sym c.is_at_end.ensures ∙ c.if-is_at_end.false) c.in_err-name.ensures x d)

pub returns-in_err-name-clause-fault : goal.returns-in_err-name-clause-fault
returns-in_err-name-clause-fault c =
    let p = err_from_is_err_and c.from_residual.result c.from_residual.ensures.1 in
    rw (p.1, p.2) (head_fault c.in_err-name.field-0.0 c.args.line.now c.behind_spaces-front.result.now c.behind_spaces-front.ensures (sym c.is_at_end.ensures ∙ c.if-is_at_end.false) c.in_err-name.ensures)

pub returns-in_err-expression-clause-only : goal.returns-in_err-expression-clause-only
returns-in_err-expression-clause-only c = λ o d.
    let p = err_from_is_err_and c.from_residual-in_err-expression.result c.from_residual-in_err-expression.ensures.1 in
    rw (p.1, p.2) (no_rule_only c.args.line.now c.behind_spaces-front.result.now (string_bytes c.in_ok-name.name) c.in_ok-name.text.now c.behind_spaces-front.ensures c.in_ok-name.ensures c.in_err-expression.field-0.0 c.in_err-expression.ensures.only d)

pub returns-in_err-expression-clause-never : goal.returns-in_err-expression-clause-never
returns-in_err-expression-clause-never c =
    let p = err_from_is_err_and c.from_residual-in_err-expression.result c.from_residual-in_err-expression.ensures.1 in
    rw (p.1, p.2) (λ x n o d. no_rule_never c.args.line.now c.behind_spaces-front.result.now (string_bytes c.in_ok-name.name) c.in_ok-name.text.now c.behind_spaces-front.ensures c.in_ok-name.ensures c.in_err-expression.field-0.0 c.in_err-expression.ensures.never x n d)

pub returns-in_err-expression-clause-fault : goal.returns-in_err-expression-clause-fault
returns-in_err-expression-clause-fault c =
    let p = err_from_is_err_and c.from_residual-in_err-expression.result c.from_residual-in_err-expression.ensures.1 in
    rw (p.1, p.2) (rule_fault c.args.line.now c.behind_spaces-front.result.now (string_bytes c.in_ok-name.name) c.in_ok-name.text.now c.behind_spaces-front.ensures c.in_ok-name.ensures c.in_err-expression.field-0.0 c.in_err-expression.ensures.fault)

pub returns-clause-found : goal.returns-clause-found
returns-clause-found c = rule_found c.args.line.now c.behind_spaces-front.result.now (string_bytes c.in_ok-name.name) c.in_ok-name.text.now c.behind_spaces-front.ensures c.in_ok-name.ensures 100 (tree_of c.in_ok-expression.expression) c.in_ok-expression.ensures.found

pub returns-clause-only : goal.returns-clause-only
returns-clause-only c = λ o d. rule_only c.args.line.now c.behind_spaces-front.result.now (string_bytes c.in_ok-name.name) c.in_ok-name.text.now c.behind_spaces-front.ensures c.in_ok-name.ensures (tree_of c.in_ok-expression.expression) c.in_ok-expression.ensures.only d
