use Rattle.std.proofs.Common.{List, ◌≡◌, ◌+◌, ◌++◌, ◌∷◌, [], ◌<◌, true, false, rules, refl, ap, sym, ◌∙◌, map, append-nil, take, arith}
use Rattle.std.proofs.lemmas.List.{take_all, map-append}
use Rattle.std.proofs.lemmas.Result.{on_ok_weaker}
use Rattle.predicates_reflection.specs.CaseViews.{named_case}
use Rattle.predicates_reflection.specs.Tree.{node_count, named_trees}
use Rattle.predicates_reflection.specs.Describe.{NamedCase}
use Rattle.predicates_reflection.proofs.Forests.{node_count-child}
use Rattle.predicates_reflection.proofs.Lines.{lines_of_all}
use Rattle.predicates_style.specs.StyledLines.{is_shown}
use Rattle.predicates_style.proofs.Children.{shown_more, hidden_more, child_written, child_passed, styled_tree-written}
use Rattle.predicates_style.proofs.text.+write_case.Goals as goal

pub overflow_add-depth : goal.overflow_add-depth
overflow_add-depth t c =
    let ys : List NamedCase = map named_case c.loop-name.yielded in
    omega (
      arith,
      c.requires,
      node_count-child c.args.case.now.children ys (c.in-Some.field-0.name.now, c.in-Some.field-0.case) c.next.new.self
          (c.loop-name.invariant.2 ∙ ap (λ r. ys ++ r) c.in-Some.ensures.steps),
    )

pub write_case-requires : goal.write_case-requires
write_case-requires t c =
    let ys : List NamedCase = map named_case c.loop-name.yielded in
    let fewer : node_count c.in-Some.field-0.case.children < node_count c.args.case.now.children =
    node_count-child c.args.case.now.children ys (c.in-Some.field-0.name.now, c.in-Some.field-0.case) c.next.new.self
    (c.loop-name.invariant.2 ∙ ap (λ r. ys ++ r) c.in-Some.ensures.steps) in
    (search rules, omega (arith, fewer, c.requires))

pub loop-name-preserved-in-Continue-branch-4 : goal.loop-name-preserved-in-Continue-branch-4
loop-name-preserved-in-Continue-branch-4 t c =
    let s = c.args.style.now in
    let n = c.loop-name.number in
    let ys : List NamedCase = map named_case c.loop-name.yielded in
    let x : NamedCase = named_case c.in-Some.field-0 in
    let shown : is_shown s.children n ≡ true = sym c.is_shown-shown.ensures ∙ c.if-shown.true in
    let written = child_written s (c.args.depth + 1) x _ _ _ _ _ c.in_ok-write_name.ensures c.in_ok-write_case.ensures refl refl in
    child_passed s (c.args.depth + 1) n (named_trees c.args.case.now.children) ys _ x c.next.new.self _ _
    (map-append named_case c.loop-name.yielded (c.in-Some.field-0 ∷ []))
    (c.loop-name.invariant.2 ∙ ap (λ r. ys ++ r) c.in-Some.ensures.steps)
    c.loop-name.invariant.3 c.loop-name.invariant.4
    (shown_more s (c.args.depth + 1) n ys x _ _ _ c.loop-name.invariant.4 shown c.loop-name.invariant.5 written)

pub loop-name-preserved : goal.loop-name-preserved
loop-name-preserved t c =
    let s = c.args.style.now in
    let n = c.loop-name.number in
    let ys : List NamedCase = map named_case c.loop-name.yielded in
    let x : NamedCase = named_case c.in-Some.field-0 in
    let hidden : is_shown s.children n ≡ false = sym c.is_shown-shown.ensures ∙ c.if-shown.false in
    child_passed s (c.args.depth + 1) n (named_trees c.args.case.now.children) ys _ x c.next.new.self _ _
    (map-append named_case c.loop-name.yielded (c.in-Some.field-0 ∷ []))
    (c.loop-name.invariant.2 ∙ ap (λ r. ys ++ r) c.in-Some.ensures.steps)
    c.loop-name.invariant.3 c.loop-name.invariant.4
    (hidden_more s (c.args.depth + 1) n ys x _ _ c.loop-name.invariant.4 hidden c.loop-name.invariant.5)

pub returns : goal.returns
returns t c =
    let ys : List NamedCase = map named_case c.loop-name.yielded in
    let items = c.products-product-items.result.now in
    let all : take c.loop-product.product-index items ≡ items = take_all _ items (omega arith) in
    let products = lines_of_all _ _ _ _ _ c.loop-product.invariant (all ∙ c.products-product-items.ensures) in
    let children = c.loop-name.invariant.2 ∙ ap (λ r. ys ++ r) c.in-None.ensures.steps.0 ∙ append-nil ys in
    on_ok_weaker c.write_left_out.result
    (λ e. styled_tree-written c.args.style.now c.args.depth c.args.case.now ys c.loop-name.number _ _ _ _ _ c.in_ok-write_verdict.ensures products c.loop-name.invariant.5 c.loop-name.invariant.4 e children)
    c.write_left_out.ensures
