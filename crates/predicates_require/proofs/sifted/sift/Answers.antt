use Rattle.std.proofs.Common.{◌≡◌, filter, rules, sym, ap, ◌∙◌}
use Rattle.std.proofs.lemmas.List.{map-id}
use Rattle.std.proofs.lemmas.Iterator.Adapters.{YieldsList-from_vec}
use Rattle.std.proofs.lemmas.Iterator.Consumers.{YieldsList-end}
use Rattle.predicates_core.specs.Formula.{truth}
use Rattle.predicates_require.specs.Sifted.{IsRejection}
use Rattle.predicates_require.proofs.Telling.{told_held, told_failed, held_are_true}
use Rattle.predicates_require.proofs.sifted.sift.Goals as goal

pub loop-item-preserved-in-Continue-branch-3 : goal.loop-item-preserved-in-Continue-branch-3
loop-item-preserved-in-Continue-branch-3 g c =
    let F = g.P.Predicate.formula c.args.predicate.now in
    search (rules, told_held F (IsRejection F) c.in-Some.item c.loop-item.invariant)

pub loop-item-preserved : goal.loop-item-preserved
loop-item-preserved g c =
    let F = g.P.Predicate.formula c.args.predicate.now in
    search (rules, told_failed F (IsRejection F) c.in-Some.item (record { item = c.in-Some.item; reason = c.in-Some-2.reason }) c.loop-item.invariant)

pub returns-clause-kept : goal.returns-clause-kept
returns-clause-kept g c formula_of has =
    let F = g.P.Predicate.formula c.args.predicate.now in
    let all : c.loop-item.yielded ≡ c.args.items.items =
    sym (map-id _) ∙ (YieldsList-end (YieldsList-from_vec c.args.items.items (search rules) (search rules)) c.loop-item.yielded _ c.loop-item.yielded_by _ c.next.new.self c.in-None.is c.next.ensures.steps).0 in
    held_are_true F formula_of has c.loop-item.invariant ∙ ap (filter (λ item. truth (formula_of item))) all
