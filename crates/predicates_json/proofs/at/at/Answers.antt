use Rattle.std.proofs.Common.{◌≡◌, [], None, option_and_then, sym, ap, ◌∙◌, arith, rules}
use Rattle.std.proofs.lemmas.Str.Pattern.{strip_prefix_char, split_parts}
use Rattle.predicates_json.specs.At.{walk}
use Rattle.predicates_json.proofs.Steps.{walk-part, walk-last, at-no_slash}
use Rattle.predicates_json.proofs.at.at.Goals as goal

pub returns-in_err-rest : goal.returns-in_err-rest
returns-in_err-rest c =
    let path = c.args.pointer.now in
    let gone : c.from_residual.result ≡ None = grind arith in
    let other = rw c.in_err-rest.was at (strip_prefix_char 47 path c.strip_prefix.result c.strip_prefix.ensures.cases (omega arith)) in
    rw gone (sym (at-no_slash path c.args.value.now (grind arith) other))

pub returns-in_err-found : goal.returns-in_err-found
returns-in_err-found c =
    let l = c.parts in
    let cut = rw c.in-Some.is at (split_parts 47 l.rest.now c.split_once.result c.split_once.ensures.cases (omega arith)) in
    let gone : c.from_residual-in_err-found.result ≡ None = grind arith in
    let turn = l.invariant.0 ∙ ap (λ s. walk [] s l.found.now) cut.0 ∙ walk-part _ _ l.found.now cut.1 in
    rw gone (sym (turn ∙ ap (option_and_then (walk [] c.in-Some.after.now)) (sym c.in_err-found.ensures)))

pub parts-preserved : goal.parts-preserved
parts-preserved c =
    let l = c.parts in
    let cut = rw c.in-Some.is at (split_parts 47 l.rest.now c.split_once.result c.split_once.ensures.cases (omega arith)) in
    let turn = l.invariant.0 ∙ ap (λ s. walk [] s l.found.now) cut.0 ∙ walk-part _ _ l.found.now cut.1 in
    (turn ∙ ap (option_and_then (walk [] c.in-Some.after.now)) (sym c.in_ok-found.ensures), search rules)

pub returns : goal.returns
returns c =
    let l = c.parts in
    let none = rw c.in_default.is at (split_parts 47 l.rest.now c.split_once.result c.split_once.ensures.cases (omega arith)) in
    c.step-2.ensures ∙ sym (l.invariant.0 ∙ walk-last l.rest.now l.found.now none)
