use Rattle.std.proofs.Common.{◌≡◌, ◌++◌, ◌∷◌, [], ℕ, List, Ok, ap, map, length, sym}
use Rattle.std.proofs.lemmas.Result.{err_from_is_err_and}
use Rattle.std.proofs.lemmas.List.{map_push}
use Rattle.vet_rules.specs.Signs.{Sign, sign_of}
use Rattle.vet_rules.specs.declared.token.Token.{Token}
use Rattle.vet_rules.specs.declared.token.Kind.TheVariants.{End}
use Rattle.vet_rules.specs.Scanning.{placed}
use Rattle.vet_rules.proofs.Lexed.{shorter}
use Rattle.vet_rules.proofs.LexLoop.{past_space, past_token, all_found, only_these, cannot, stopped}
use Rattle.vet_rules.proofs.lexer.lex.Goals as goal

pub loop-alloc-preserved-in-Some : goal.loop-alloc-preserved-in-Some
loop-alloc-preserved-in-Some c = past_space c.args.text.now c.loop-alloc.left.now c.in-Some.rest.now (map placed c.loop-alloc.tokens.items) (sym c.in-Some.ensures) c.loop-alloc.invariant

pub returns-in_err-kind-in-None-clause-only : goal.returns-in_err-kind-in-None-clause-only
returns-in_err-kind-in-None-clause-only c = λ ts d.
    let p = err_from_is_err_and c.from_residual.result c.from_residual.ensures.1 in
    rw (p.1, p.2) (cannot c.in_err-kind-in-None.field-0.0 c.args.text.now c.loop-alloc.left.now (map placed c.loop-alloc.tokens.items) ts (sym c.loop-alloc-test.ensures) (sym c.in-None.ensures) c.in_err-kind-in-None.ensures c.loop-alloc.invariant d)

pub loop-alloc-smaller : goal.loop-alloc-smaller
loop-alloc-smaller c = shorter _ _ _ c.in_ok-kind-in-None.ensures

pub loop-alloc-preserved : goal.loop-alloc-preserved
loop-alloc-preserved c =
    let token : Token = record { kind = c.in_ok-kind-in-None.kind; left = length c.loop-alloc.left.now } in
    let e : map placed c.push.new.self.items ≡ map placed c.loop-alloc.tokens.items ++ placed token ∷ [] = rw c.in_ok-push-in-None.ensures.items (map_push placed c.loop-alloc.tokens.items token) in
    rw e (past_token c.args.text.now c.loop-alloc.left.now (map placed c.loop-alloc.tokens.items) (sign_of c.in_ok-kind-in-None.kind) c.in_ok-kind-in-None.rest.now c.in_ok-kind-in-None.ensures c.loop-alloc.invariant)

pub returns-clause-found : goal.returns-clause-found
returns-clause-found c =
    let token : Token = record { kind = End; left = length c.loop-alloc.left.now } in
    let e : map placed c.push-2.new.self.items ≡ map placed c.loop-alloc.tokens.items ++ placed token ∷ [] = rw c.in_ok-push.ensures.items (map_push placed c.loop-alloc.tokens.items token) in
    rw e (all_found c.args.text.now c.loop-alloc.left.now (map placed c.loop-alloc.tokens.items) (sym c.loop-alloc-test.ensures) c.loop-alloc.invariant)

pub returns-clause-only : goal.returns-clause-only
returns-clause-only c = λ ts d.
    let token : Token = record { kind = End; left = length c.loop-alloc.left.now } in
    let e : map placed c.push-2.new.self.items ≡ map placed c.loop-alloc.tokens.items ++ placed token ∷ [] = rw c.in_ok-push.ensures.items (map_push placed c.loop-alloc.tokens.items token) in
    rw e (ap (λ (us : List (Sign × ℕ)). Ok us) (only_these c.args.text.now c.loop-alloc.left.now (map placed c.loop-alloc.tokens.items) ts (sym c.loop-alloc-test.ensures) c.loop-alloc.invariant d))

pub returns-in_err-kind-in-None-clause-fault : goal.returns-in_err-kind-in-None-clause-fault
returns-in_err-kind-in-None-clause-fault c =
    let p = err_from_is_err_and c.from_residual.result c.from_residual.ensures.1 in
    rw (p.1, p.2) (stopped c.in_err-kind-in-None.field-0.0 c.args.text.now c.loop-alloc.left.now (map placed c.loop-alloc.tokens.items) (sym c.loop-alloc-test.ensures) (sym c.in-None.ensures) c.in_err-kind-in-None.ensures c.loop-alloc.invariant)
