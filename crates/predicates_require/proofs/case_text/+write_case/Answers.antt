use Rattle.std.proofs.Common.{List, [], ◌+◌, ◌++◌, ◌<◌, Ok, rules, refl, ap, ◌∙◌, subst, map, flat_map, codes, append-nil, arith}
use Rattle.std.specs.Fmt.{WritesOnOk}
use Rattle.predicates_core.specs.CaseViews.{named_case}
use Rattle.predicates_core.specs.Tree.{node_count}
use Rattle.predicates_core.specs.Describe.{NamedCase}
use Rattle.predicates_core.specs.Lines.{indented, verdict, product_line, tree_lines, child_lines}
use Rattle.predicates_core.proofs.Forests.{node_count-child}
use Rattle.predicates_core.proofs.Lines.{tree_lines-written}
use Rattle.predicates_require.proofs.Printing.{written_more}
use Rattle.predicates_require.proofs.case_text.+write_case.Goals as goal

pub overflow_add-depth : goal.overflow_add-depth
overflow_add-depth g t c =
    let ys : List NamedCase = map named_case c.loop-name.yielded in
    omega (
      arith,
      c.requires,
      node_count-child c.args.case.now.children ys (c.in-Some.field-0.name.now, c.in-Some.field-0.case) c.next.new.self
          (c.loop-name.invariant.2 ∙ ap (λ r. ys ++ r) c.in-Some.ensures.steps),
    )

pub overflow_add-depth-in-loop-name : goal.overflow_add-depth-in-loop-name
overflow_add-depth-in-loop-name g t c =
    let ys : List NamedCase = map named_case c.loop-name.yielded in
    omega (
      arith,
      c.requires,
      node_count-child c.args.case.now.children ys (c.in-Some.field-0.name.now, c.in-Some.field-0.case) c.next.new.self
          (c.loop-name.invariant.2 ∙ ap (λ r. ys ++ r) c.in-Some.ensures.steps),
    )

pub write_case-requires : goal.write_case-requires
write_case-requires g t c κs within =
    let ys : List NamedCase = map named_case c.loop-name.yielded in
    let fewer : node_count c.in-Some.field-0.case.children < node_count c.args.case.now.children =
    node_count-child c.args.case.now.children ys (c.in-Some.field-0.name.now, c.in-Some.field-0.case) c.next.new.self
    (c.loop-name.invariant.2 ∙ ap (λ r. ys ++ r) c.in-Some.ensures.steps) in
    (search rules, (within, omega (arith, fewer, c.requires)))

pub returns : goal.returns
returns g t c =
    let took = g.W.Write.write_str_gives in
    let tree = c.args.case.now in
    let ys : List NamedCase = map named_case c.loop-name.yielded in
    let own = verdict tree.root in
    let line = product_line (indented c.args.depth ++ codes "  ") in
    let shown = own ++ flat_map line tree.root.products in
    let below = flat_map (child_lines (c.args.depth + 1)) ys in
    let products : WritesOnOk took c.write_verdict.new.f (Ok tt) (flat_map line tree.root.products) c.write_products.new.f =
    subst (λ ps. WritesOnOk took c.write_verdict.new.f (Ok tt) (flat_map line ps) c.write_products.new.f) c.products.ensures c.in_ok-write_products.ensures in
    written_more took c.args.f.now c.write_products.new.f c.loop-name.f shown below (tree_lines c.args.depth tree)
    (written_more took c.args.f.now c.write_verdict.new.f c.write_products.new.f own (flat_map line tree.root.products) shown c.in_ok-write_verdict.ensures products refl)
    c.loop-name.invariant.3
    (tree_lines-written [] own shown (shown ++ below) c.args.depth tree ys refl refl refl (c.loop-name.invariant.2 ∙ ap (λ r. ys ++ r) c.in-None.ensures.steps.0 ∙ append-nil ys))
