use Rattle.std.proofs.Common.{List, ◌≡◌, ◌++◌, ◌<◌, rules, ap, ◌∙◌, map, append-nil, take, arith}
use Rattle.std.proofs.lemmas.List.{take_all}
use Rattle.predicates_reflection.specs.CaseViews.{named_case}
use Rattle.predicates_reflection.specs.Tree.{node_count}
use Rattle.predicates_reflection.specs.Describe.{NamedCase}
use Rattle.predicates_reflection.proofs.Forests.{node_count-child}
use Rattle.predicates_reflection.proofs.Lines.{lines_of_all, tree_lines-written}
use Rattle.predicates_reflection.proofs.reflection.text.+write_case.Goals as goal

pub overflow_add-depth : goal.overflow_add-depth
overflow_add-depth t c =
    let ys : List NamedCase = map named_case c.loop-name.yielded in
    omega (
      arith,
      c.requires,
      node_count-child c.args.case.now.children ys (c.in-Some.field-0.name.now, c.in-Some.field-0.case) c.next.new.self
          (c.loop-name.invariant.2 ∙ ap (λ r. ys ++ r) c.in-Some.ensures.steps),
    )

pub write_case-requires : goal.write_case-requires
write_case-requires t c =
    let ys : List NamedCase = map named_case c.loop-name.yielded in
    let fewer : node_count c.in-Some.field-0.case.children < node_count c.args.case.now.children =
    node_count-child c.args.case.now.children ys (c.in-Some.field-0.name.now, c.in-Some.field-0.case) c.next.new.self
    (c.loop-name.invariant.2 ∙ ap (λ r. ys ++ r) c.in-Some.ensures.steps) in
    (search rules, omega (arith, fewer, c.requires))

pub returns : goal.returns
returns t c =
    let ys : List NamedCase = map named_case c.loop-name.yielded in
    let items = c.products-product-items.result.now in
    let all : take c.loop-product.product-index items ≡ items = take_all _ items (omega arith) in
    let products = lines_of_all _ _ _ _ _ c.loop-product.invariant (all ∙ c.products-product-items.ensures) in
    tree_lines-written _ _ _ _ _ c.args.case.now ys c.in_ok-write_verdict.ensures products c.loop-name.invariant.3 (c.loop-name.invariant.2 ∙ ap (λ r. ys ++ r) c.in-None.ensures.steps.0 ∙ append-nil ys)
