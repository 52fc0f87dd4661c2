use Rattle.std.proofs.Common.{ap, refl, ◌∙◌, ◌≡◌, List, [], ◌++◌, arith}
use Rattle.std.proofs.lemmas.Grind.{common_steps}
use Rattle.std.proofs.lemmas.List.{nil_from_length}
use Rattle.predicates_reflection.specs.CaseFields.{node_of}
use Rattle.predicates_reflection.specs.declared.reflection.case.Entry.{Entry}
use Rattle.predicates_reflection.proofs.Preorder.{trees-push, preorder-push, preorder-first, trees-first}
use Rattle.predicates_reflection.proofs.reflection.case.Case.add_child.Goals as goal

pub invariant_of-result : goal.invariant_of-result
invariant_of-result c = preorder-first _ _ _ c.child.invariant c.in_ok-insert.ensures.items (omega arith)

pub returns-then-is_empty : goal.returns-then-is_empty
returns-then-is_empty c =
    let es : List Entry = c.self.inside.below.items in
    let none : es ≡ [] = nil_from_length es (grind (arith, common_steps)) in
    ap (λ f. record { root = node_of c.self.inside.root; children = f }) (trees-first es _ _ _ none c.in_ok-insert.ensures.items (omega arith))
    ∙ rw (← c.self.view_is, ← c.child.view_is, c.new.ensures) refl

pub invariant_of-result-2 : goal.invariant_of-result-2
invariant_of-result-2 c =
    let es : List Entry = c.self.inside.below.items in
    let subtree : List Entry = c.child.inside.below.items in
    let pushed = rw c.in_ok-reserve.ensures.items at c.in_ok-push.ensures.items in
    let all = c.in_ok-append.ensures.items ∙ ap (λ l. l ++ subtree) pushed in
    preorder-push es _ subtree _ c.self.invariant c.child.invariant all (omega arith)

pub returns : goal.returns
returns c =
    let es : List Entry = c.self.inside.below.items in
    let subtree : List Entry = c.child.inside.below.items in
    let pushed = rw c.in_ok-reserve.ensures.items at c.in_ok-push.ensures.items in
    let all = c.in_ok-append.ensures.items ∙ ap (λ l. l ++ subtree) pushed in
    ap (λ f. record { root = node_of c.self.inside.root; children = f }) (trees-push es _ subtree _ c.self.invariant all (omega arith))
    ∙ rw (← c.self.view_is, ← c.child.view_is, c.new.ensures) refl
