use Rattle.std.proofs.Common.{◌≡◌, sym, ap, ◌∙◌, subst, List, ℕ, drop, Result, Ok}
use Rattle.std.proofs.lemmas.Result.{err_from_is_err_and}
use Rattle.vet_rules.specs.declared.stop.Stop.{Stop}
use Rattle.vet_rules.specs.Answers.{Fails}
use Rattle.vet_rules.specs.Heading.{after_colon}
use Rattle.vet_rules.proofs.Lines.{head_no_text, head_named, colon_found, colon_missing}
use Rattle.vet_rules.proofs.reader.bare_head.Goals as goal

pub returns-in_default : goal.returns-in_default
returns-in_default c = rw c.stop-in_default.ensures (head_no_text c.args.line.now _ c.run_len-len.result c.if-len-eq0.false c.run_len-len.ensures.value c.split_at.ensures.front c.in_default.ensures.cases)

pub returns-in_err-text : goal.returns-in_err-text
returns-in_err-text c =
    let p = err_from_is_err_and c.from_residual.result c.from_residual.ensures.1 in
    let name = c.split_at.result.0.now in
    let front = head_named c.args.line.now name c.run_len-len.result c.if-len-eq0.false c.run_len-len.ensures.value c.split_at.ensures.front c.in-Some.ensures.cases.1 in
    let missing = subst (λ (w : List ℕ). Fails c.in_err-text.field-0.0 (after_colon w)) c.split_at.ensures.back c.in_err-text.ensures in
    rw (p.1, p.2) (subst (λ (r : Result (List ℕ × List ℕ) Stop). Fails c.in_err-text.field-0.0 r) (sym front) (colon_missing c.in_err-text.field-0.0 (after_colon (drop c.run_len-len.result c.args.line.now)) name missing))

pub returns : goal.returns
returns c =
    let name = c.split_at.result.0.now in
    let front = head_named c.args.line.now name c.run_len-len.result c.if-len-eq0.false c.run_len-len.ensures.value c.split_at.ensures.front c.in-Some.ensures.cases.1 in
    let text = subst (λ (w : List ℕ). after_colon w ≡ Ok c.in_ok-text.text.now) c.split_at.ensures.back c.in_ok-text.ensures in
    front ∙ colon_found (after_colon (drop c.run_len-len.result c.args.line.now)) name c.in_ok-text.text.now text ∙ ap (λ (w : List ℕ). Ok (w, c.in_ok-text.text.now)) (sym (c.in_ok-from_str.ensures.ok ∙ c.in-Some.ensures.cases.0))
