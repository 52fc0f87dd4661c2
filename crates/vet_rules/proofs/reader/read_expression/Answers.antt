use Rattle.std.proofs.Common.{subst, List, ℕ, Ok}
use Rattle.std.proofs.lemmas.Result.{err_from_is_err_and}
use Rattle.vet_rules.specs.declared.token.Token.{Token}
use Rattle.vet_rules.specs.Signs.{signs}
use Rattle.vet_rules.specs.Trees.{Tree, tree_of}
use Rattle.vet_rules.specs.Grammar.{IsSpelled}
use Rattle.vet_rules.specs.Answers.{Gives, Fails, IsSyntax}
use Rattle.vet_rules.specs.Reading.{all_of}
use Rattle.vet_rules.proofs.Readings.{said, said_only, token_fault, not_said, never_said, expression_fault}
use Rattle.vet_rules.proofs.reader.read_expression.Goals as goal

pub returns-in_err-tokens-clause-fault : goal.returns-in_err-tokens-clause-fault
returns-in_err-tokens-clause-fault c =
    let p = err_from_is_err_and c.from_residual.result c.from_residual.ensures.1 in
    rw (p.1, p.2) (token_fault c.in_err-tokens.field-0.0 c.args.text.now c.in_err-tokens.ensures.fault)

pub returns-in-Ok-clause-found : goal.returns-in-Ok-clause-found
returns-in-Ok-clause-found c =
    said 100 c.args.text.now c.in_ok-tokens.tokens.items (tree_of c.in-Ok.expression) c.in_ok-tokens.ensures.found
    (subst (λ (ts : List Token). IsSpelled 100 (signs ts) (tree_of c.in-Ok.expression)) c.deref.ensures.value c.in-Ok.ensures.found)

pub returns-in-Ok-clause-only : goal.returns-in-Ok-clause-only
returns-in-Ok-clause-only c =
    said_only 100 c.args.text.now c.in_ok-tokens.tokens.items (Ok c.in-Ok.expression) c.in_ok-tokens.ensures.found
    (subst (λ (ts : List Token). (e : Tree) → IsSpelled 100 (signs ts) e → Gives tree_of (Ok c.in-Ok.expression) (Ok e)) c.deref.ensures.value c.in-Ok.ensures.only)

pub returns-clause-only : goal.returns-clause-only
returns-clause-only c = λ e s.
    let only = subst (λ (ts : List Token). (t : Tree) → IsSpelled 100 (signs ts) t → Fails {Y = Tree} c.in-Err.error (Ok t)) c.deref.ensures.value c.in-Err.ensures.only in
    rw (c.in_bytes.ensures, c.deref-in-Err.ensures.value) (not_said 100 c.args.text.now c.in_ok-tokens.tokens.items c.in-Err.error c.in_ok-tokens.ensures.found only e s)

pub returns-clause-never : goal.returns-clause-never
returns-clause-never c =
    let never = subst (λ (ts : List Token). IsSyntax c.in-Err.error → (n : ℕ) (t : Tree) → IsSpelled n (signs ts) t → ⊥) c.deref.ensures.value c.in-Err.ensures.never in
    rw (c.in_bytes.ensures, c.deref-in-Err.ensures.value) (never_said c.args.text.now c.in_ok-tokens.tokens.items c.in-Err.error c.in_ok-tokens.ensures.found never)

pub returns-clause-fault : goal.returns-clause-fault
returns-clause-fault c =
    let exact = subst (λ (ts : List Token). Fails c.in-Err.error (all_of 100 (signs ts))) c.deref.ensures.value c.in-Err.ensures.exact in
    rw (c.in_bytes.ensures, c.deref-in-Err.ensures.value) (expression_fault c.args.text.now c.in_ok-tokens.tokens.items c.in-Err.error c.in_ok-tokens.ensures.found exact)
