use Rattle.std.proofs.Common.{◌≡◌, ◌<◌, ◌++◌, List, rules, ap, sym, ◌∙◌, map, append-nil}
use Rattle.std.proofs.lemmas.Result.{IfOk-weaker}
use Rattle.serde_json.specs.View.{items_of, items_view}
use Rattle.predicates_core.specs.CaseViews.{named_case}
use Rattle.predicates_core.specs.Tree.{node_count, named_trees}
use Rattle.predicates_core.specs.Describe.{NamedCase}
use Rattle.predicates_core.proofs.Forests.{node_count-child}
use Rattle.predicates_json.specs.CaseData.{forest_data, node_data}
use Rattle.predicates_json.proofs.Written.{named_data, forest_data-named}
use Rattle.predicates_json.proofs.case.+case_json.Goals as goal

pub case_json-requires : goal.case_json-requires
case_json-requires t c =
    let ys : List NamedCase = map named_case c.loop-name.yielded in
    let fewer : node_count c.in-Some.field-0.case.children < node_count c.args.case.now.children =
    node_count-child c.args.case.now.children ys (c.in-Some.field-0.name.now, c.in-Some.field-0.case) c.next.new.self
    (c.loop-name.invariant.2 ∙ ap (λ r. ys ++ r) c.in-Some.ensures.steps) in
    search rules

pub returns : goal.returns
returns t c =
    let ys : List NamedCase = map named_case c.loop-name.yielded in
    let all : named_trees c.args.case.now.children ≡ ys = c.loop-name.invariant.2 ∙ ap (λ r. ys ++ r) c.in-None.ensures.steps.0 ∙ append-nil ys in
    let children : items_view c.loop-name.children.items ≡ forest_data c.args.case.now.children =
    ap items_of c.loop-name.invariant.3 ∙ ap (λ ts. items_of (map named_data ts)) (sym all) ∙ sym (forest_data-named c.args.case.now.children) in
    IfOk-weaker c.node_json.result _ _ (λ v h. h ∙ ap (node_data c.args.case.now.root) children) c.node_json.ensures
