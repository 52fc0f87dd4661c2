use Rattle.std.proofs.Common.{◌≡◌, ◌<◌, ◌++◌, List, [], ◌∷◌, false, rules, ap, sym, refl, ◌∙◌, map, append_assoc, append-nil}
use Rattle.std.proofs.lemmas.List.{map-append}
use Rattle.std.specs.Prelude.{string_bytes}
use Rattle.predicates_core.specs.CaseViews.{named_case}
use Rattle.predicates_core.specs.Tree.{node_count, named_trees}
use Rattle.predicates_core.specs.Describe.{NamedCase}
use Rattle.predicates_core.proofs.Forests.{node_count-child}
use Rattle.vet_run.specs.Objects.{listed}
use Rattle.vet_run.proofs.Listing.{named_text, forest_listed, later_child, child_more}
use Rattle.vet_run.proofs.object.+push_children.Goals as goal

pub push_children-requires : goal.push_children-requires
push_children-requires t c =
    let ys : List NamedCase = map named_case c.loop-name.yielded in
    let fewer : node_count c.in-Some.field-0.case.children < node_count c.args.case.now.children =
    node_count-child c.args.case.now.children ys (c.in-Some.field-0.name.now, c.in-Some.field-0.case) c.next.new.self
    (c.loop-name.invariant.2 ∙ ap (λ r. ys ++ r) c.in-Some.ensures.steps) in
    search rules

pub loop-name-preserved : goal.loop-name-preserved
loop-name-preserved t c =
    let ys : List NamedCase = map named_case c.loop-name.yielded in
    let x : NamedCase = (c.in-Some.field-0.name.now, c.in-Some.field-0.case) in (
      tt,
      tt,
      c.loop-name.invariant.2 ∙ ap (λ r. ys ++ r) c.in-Some.ensures.steps ∙ sym (append_assoc ys (x ∷ []) c.next.new.self)
          ∙ ap (λ zs. zs ++ c.next.new.self) (sym (map-append named_case c.loop-name.yielded (c.in-Some.field-0 ∷ []))),
      later_child c.loop-name.yielded c.in-Some.field-0,
      child_more named_case c.loop-name.yielded c.in-Some.field-0 x c.loop-name.later
          _ _ _ _ _ _ refl c.loop-name.invariant.3 c.loop-name.invariant.4
          c.in_ok-push_name.ensures c.in_ok-push_node.ensures c.in_ok-push_children.ensures c.in_ok-push_str.ensures.bytes,
    )

pub returns : goal.returns
returns t c =
    let ys : List NamedCase = map named_case c.loop-name.yielded in
    let all : named_trees c.args.case.now.children ≡ ys = c.loop-name.invariant.2 ∙ ap (λ r. ys ++ r) c.in-None.ensures.steps.0 ∙ append-nil ys in
    c.loop-name.invariant.4 ∙ ap (λ z. string_bytes c.args.text.now ++ z) (ap (λ ts. listed false (map named_text ts)) (sym all) ∙ sym (forest_listed false c.args.case.now.children))
