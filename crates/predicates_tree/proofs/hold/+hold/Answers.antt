use Rattle.std.proofs.Common.{◌≡◌, ◌∙◌, ap, Some, option_map, sym, rules, arith, subst, codes, true, false, take, refl}
use Rattle.std.proofs.lemmas.Grind.{common_steps}
use Rattle.std.proofs.lemmas.List.{take_all, length-take-le}
use Rattle.predicates_core.proofs.Asked.{truth_of_pair}
use Rattle.predicates_core.proofs.CombinedLemmas.{HasTruth-not, HasTruth-named}
use Rattle.predicates_tree.specs.Trees.{AllAsked, AsksAll, tree_of}
use Rattle.predicates_tree.specs.Formulas.{Has, HasOn}
use Rattle.predicates_tree.specs.Kept.{no_step, then_step}
use Rattle.predicates_tree.specs.Viewed.{members_in}
use Rattle.predicates_tree.specs.declared.check.Check.TheFolds.{the_lemmas}
use Rattle.predicates_tree.proofs.Unrolled.{not_tree, named_tree, pair_tree, row_tree, members_tree}
use Rattle.predicates_tree.proofs.Rows.{row_lawful, at_words, each_asked, truth_of_list, truth_of_absence, each_at, verdict_of_row, truth_of_first}
use Rattle.predicates_tree.proofs.Counted.{Counted, counted_within, counted_more, decided_truth, met_truth}
use Rattle.predicates_tree.proofs.Steps.{steps_joined}
use Rattle.predicates_tree.proofs.hold.+hold.Goals as goal

pub not_holds-returns-clause-truth : goal.not_holds-returns-clause-truth
not_holds-returns-clause-truth g t c = λ w. HasTruth-not c.in_ok-held.ensures.truth refl

pub named_holds-returns-clause-truth : goal.named_holds-returns-clause-truth
named_holds-returns-clause-truth g t c = λ name. HasTruth-named c.in_ok-held.ensures.truth

pub pair_holds-returns-then-not-asks-clause-truth : goal.pair_holds-returns-then-not-asks-clause-truth
pair_holds-returns-then-not-asks-clause-truth g t c = λ w. truth_of_first c.args.left.operator c.args.left.found (rw (← c.asks.ensures) (search rules)) c.requires.left c.apply.ensures

pub pair_holds-returns-clause-truth : goal.pair_holds-returns-clause-truth
pair_holds-returns-clause-truth g t c = λ w. truth_of_pair c.args.left.operator _ _ c.requires.left c.in_ok-right_holds.ensures.truth c.apply-2.ensures _

pub holds-returns-in-Not-clause-truth : goal.holds-returns-in-Not-clause-truth
holds-returns-in-Not-clause-truth g t c = rw (ap (tree_of g.S.Wording.words) c.in-Not.is ∙ not_tree g.S.Wording.words c.in-Not.field-0 c.in-Not.inner) (at_words _ c.not_holds.result (rw (c.deref.ensures) at c.not_holds.ensures.truth) (g.S.Wording.words c.in-Not.field-0))

pub holds-returns-in-Named-clause-truth : goal.holds-returns-in-Named-clause-truth
holds-returns-in-Named-clause-truth g t c = rw (ap (tree_of g.S.Wording.words) c.in-Named.is ∙ named_tree g.S.Wording.words c.in-Named.field-0 c.in-Named.inner) (at_words _ c.named_holds.result (rw (c.deref-in-Named.ensures) at c.named_holds.ensures.truth) c.in-Named.field-0)

pub holds-returns-in_ok-found-in-Pair-clause-truth : goal.holds-returns-in_ok-found-in-Pair-clause-truth
holds-returns-in_ok-found-in-Pair-clause-truth g t c = rw (ap (tree_of g.S.Wording.words) c.in-Pair.is ∙ pair_tree g.S.Wording.words c.in-Pair.field-0 c.in-Pair.operator c.in-Pair.part c.in-Pair.right_part) (at_words _ c.pair_holds.result (rw (c.deref-part.ensures, c.deref-in-Pair.ensures) at c.pair_holds.ensures.truth) (g.S.Wording.words c.in-Pair.field-0))

pub holds-returns-in-Row-clause-truth : goal.holds-returns-in-Row-clause-truth
holds-returns-in-Row-clause-truth g t c = rw (ap (tree_of g.S.Wording.words) c.in-Row.is ∙ row_tree g.S.Wording.words c.in-Row.field-0 c.in-Row.quota c.in-Row.parts) (at_words _ c.parts_hold.result (verdict_of_row g.L.Display.output g.V.Display.output g.L.Predicate.formula g.V.View.gives g.V.View.absence_of g.S.Wording.words c.args.item.now c.in-Row.quota c.in-Row.parts.items c.parts_hold.result (rw c.deref-in-Row.ensures.value at c.parts_hold.ensures.truth)) (g.S.Wording.words c.in-Row.field-0))

pub holds-returns-in-Row-clause-infallible : goal.holds-returns-in-Row-clause-infallible
holds-returns-in-Row-clause-infallible g t c = λ h. (rw c.deref-in-Row.ensures.value at c.parts_hold.ensures.infallible) (each_asked g.L.Predicate.infallible g.V.View.lends g.V.View.gives g.S.Wording.words c.args.item.now c.in-Row.parts.items (subst (AllAsked g.L.Predicate.infallible g.V.View.lends g.V.View.gives c.args.item.now) (ap (tree_of g.S.Wording.words) c.in-Row.is ∙ row_tree g.S.Wording.words c.in-Row.field-0 c.in-Row.quota c.in-Row.parts) h))

pub holds-parts_hold-requires : goal.holds-parts_hold-requires
holds-parts_hold-requires g t c κs within =
    (grind (the_lemmas, arith, common_steps) steps 30000000, (within.0, (within.1.0, (within.1.1.0, (within.1.1.1.0, (within.1.1.1.1.0, (within.1.1.1.1.1, row_lawful g.L.Predicate.lawful g.S.Wording.words c.in-Row.parts c.in-Row.is c.deref-in-Row.ensures.value c.requires)))))))

pub holds-returns-in-Members-clause-truth : goal.holds-returns-in-Members-clause-truth
holds-returns-in-Members-clause-truth g t c = rw (ap (tree_of g.S.Wording.words) c.in-Members.is ∙ members_tree g.S.Wording.words c.in-Members.field-0 c.in-Members.quota c.in-Members.view c.in-Members.inner) (at_words _ c.viewed_hold.result (rw (c.deref-in-Members.ensures) at c.viewed_hold.ensures.truth) (g.S.Wording.words c.in-Members.field-0))

pub holds-returns-in-Members-clause-infallible : goal.holds-returns-in-Members-clause-infallible
holds-returns-in-Members-clause-infallible g t c = λ h. (rw c.deref-in-Members.ensures at c.viewed_hold.ensures.infallible) (g.S.Wording.words c.in-Members.field-0) (subst (AllAsked g.L.Predicate.infallible g.V.View.lends g.V.View.gives c.args.item.now) (ap (tree_of g.S.Wording.words) c.in-Members.is ∙ members_tree g.S.Wording.words c.in-Members.field-0 c.in-Members.quota c.in-Members.view c.in-Members.inner) h)

pub viewed_hold-returns-in_ok-held-in-Some-clause-truth : goal.viewed_hold-returns-in_ok-held-in-Some-clause-truth
viewed_hold-returns-in_ok-held-in-Some-clause-truth g t c = λ w. truth_of_list _ (subst (g.V.View.gives c.args.viewed.view.now c.args.viewed.item.now) (ap (option_map (members_in g.V.Kept.Items.items_of)) c.in-Some.is ∙ ap Some (sym c.as_slice.ensures)) c.in_ok-members.ensures.listed) (c.in_ok-held-in-Some.ensures.truth _ (codes "item"))

pub viewed_hold-returns-in-None-clause-truth : goal.viewed_hold-returns-in-None-clause-truth
viewed_hold-returns-in-None-clause-truth g t c = λ w. truth_of_absence (subst (g.V.View.gives c.args.viewed.view.now c.args.viewed.item.now) (ap (option_map (members_in g.V.Kept.Items.items_of)) c.in-None.is) c.in_ok-members.ensures.listed) refl

pub parts_hold-decided-requires-clause-held : goal.parts_hold-decided-requires-clause-held
parts_hold-decided-requires-clause-held g t c = let h = counted_within (Has g.L.Display.output g.V.Display.output g.L.Predicate.formula g.V.View.gives g.V.View.absence_of g.S.Wording.words c.args.item.now) (take c.loop-index.index c.args.parts.now) c.loop-index.held c.loop-index.invariant.0 in let n = length-take-le c.loop-index.index c.args.parts.now (omega arith) in omega (arith, h, n)

pub parts_hold-returns-in-Some-clause-truth : goal.parts_hold-returns-in-Some-clause-truth
parts_hold-returns-in-Some-clause-truth g t c = λ text name. decided_truth (Has g.L.Display.output g.V.Display.output g.L.Predicate.formula g.V.View.gives g.V.View.absence_of g.S.Wording.words c.args.item.now) text name c.args.parts.now c.loop-index.index c.loop-index.held (omega arith) c.loop-index.invariant.0 c.args.quota c.in-Some.decided (sym c.decided.ensures ∙ c.in-Some.is)

pub parts_hold-loop-index-preserved : goal.parts_hold-loop-index-preserved
parts_hold-loop-index-preserved g t c = (counted_more (Has g.L.Display.output g.V.Display.output g.L.Predicate.formula g.V.View.gives g.V.View.absence_of g.S.Wording.words c.args.item.now) c.args.parts.now c.loop-index.index c.loop-index.held _ c.index-parts-index.result c.in_ok-verdict.verdict (omega arith) c.index-parts-index.is c.loop-index.invariant.0 c.in_ok-verdict.ensures.truth c.counted-held.ensures, steps_joined c.loop-index.invariant.1 c.holds.ensures.keeps)

pub parts_hold-returns-in_err-verdict-clause-infallible : goal.parts_hold-returns-in_err-verdict-clause-infallible
parts_hold-returns-in_err-verdict-clause-infallible g t c = λ h. absurd (let apart : false ≡ true = c.in_err-verdict.ensures.infallible (each_at (AsksAll g.L.Predicate.infallible g.V.View.lends g.V.View.gives g.S.Wording.words c.args.item.now) c.args.parts.now c.loop-index.index c.index-parts-index.result h (omega arith) c.index-parts-index.is) in cc)

pub parts_hold-returns-clause-truth : goal.parts_hold-returns-clause-truth
parts_hold-returns-clause-truth g t c = λ text name. rw c.is_met.ensures (met_truth (Has g.L.Display.output g.V.Display.output g.L.Predicate.formula g.V.View.gives g.V.View.absence_of g.S.Wording.words c.args.item.now) text name c.args.quota c.args.parts.now c.loop-index.held (subst (λ us. Counted (Has g.L.Display.output g.V.Display.output g.L.Predicate.formula g.V.View.gives g.V.View.absence_of g.S.Wording.words c.args.item.now) us c.loop-index.held) (take_all c.loop-index.index c.args.parts.now (omega arith)) c.loop-index.invariant.0))

pub members_hold-decided-requires-clause-held : goal.members_hold-decided-requires-clause-held
members_hold-decided-requires-clause-held g t c = let h = counted_within (HasOn g.L.Display.output g.V.Display.output g.L.Predicate.formula g.V.View.gives g.V.View.absence_of g.S.Wording.words c.args.inner.now) (take c.loop-index.index c.args.members.now) c.loop-index.held c.loop-index.invariant.0 in let n = length-take-le c.loop-index.index c.args.members.now (omega arith) in omega (arith, h, n)

pub members_hold-returns-in-Some-clause-truth : goal.members_hold-returns-in-Some-clause-truth
members_hold-returns-in-Some-clause-truth g t c = λ text name. decided_truth (HasOn g.L.Display.output g.V.Display.output g.L.Predicate.formula g.V.View.gives g.V.View.absence_of g.S.Wording.words c.args.inner.now) text name c.args.members.now c.loop-index.index c.loop-index.held (omega arith) c.loop-index.invariant.0 c.args.quota c.in-Some.decided (sym c.decided.ensures ∙ c.in-Some.is)

pub members_hold-loop-index-preserved : goal.members_hold-loop-index-preserved
members_hold-loop-index-preserved g t c = (counted_more (HasOn g.L.Display.output g.V.Display.output g.L.Predicate.formula g.V.View.gives g.V.View.absence_of g.S.Wording.words c.args.inner.now) c.args.members.now c.loop-index.index c.loop-index.held _ c.index-members-index.result c.in_ok-verdict.verdict (omega arith) c.index-members-index.is c.loop-index.invariant.0 c.in_ok-verdict.ensures.truth c.counted-held.ensures, steps_joined c.loop-index.invariant.1 c.holds.ensures.keeps)

pub members_hold-returns-in_err-verdict-clause-infallible : goal.members_hold-returns-in_err-verdict-clause-infallible
members_hold-returns-in_err-verdict-clause-infallible g t c = λ h. absurd (let apart : false ≡ true = c.in_err-verdict.ensures.infallible (each_at (λ member. AsksAll g.L.Predicate.infallible g.V.View.lends g.V.View.gives g.S.Wording.words member c.args.inner.now) c.args.members.now c.loop-index.index c.index-members-index.result h (omega arith) c.index-members-index.is) in cc)

pub members_hold-returns-clause-truth : goal.members_hold-returns-clause-truth
members_hold-returns-clause-truth g t c = λ text name. rw c.is_met.ensures (met_truth (HasOn g.L.Display.output g.V.Display.output g.L.Predicate.formula g.V.View.gives g.V.View.absence_of g.S.Wording.words c.args.inner.now) text name c.args.quota c.args.members.now c.loop-index.held (subst (λ us. Counted (HasOn g.L.Display.output g.V.Display.output g.L.Predicate.formula g.V.View.gives g.V.View.absence_of g.S.Wording.words c.args.inner.now) us c.loop-index.held) (take_all c.loop-index.index c.args.members.now (omega arith)) c.loop-index.invariant.0))

pub parts_hold-counted-held-requires : goal.parts_hold-counted-held-requires
parts_hold-counted-held-requires g t c = let h = counted_within (Has g.L.Display.output g.V.Display.output g.L.Predicate.formula g.V.View.gives g.V.View.absence_of g.S.Wording.words c.args.item.now) (take c.loop-index.index c.args.parts.now) c.loop-index.held c.loop-index.invariant.0 in let n = length-take-le c.loop-index.index c.args.parts.now (omega arith) in omega (arith, h, n)

pub members_hold-counted-held-requires : goal.members_hold-counted-held-requires
members_hold-counted-held-requires g t c = let h = counted_within (HasOn g.L.Display.output g.V.Display.output g.L.Predicate.formula g.V.View.gives g.V.View.absence_of g.S.Wording.words c.args.inner.now) (take c.loop-index.index c.args.members.now) c.loop-index.held c.loop-index.invariant.0 in let n = length-take-le c.loop-index.index c.args.members.now (omega arith) in omega (arith, h, n)

pub holds-returns-in-Leaf-clause-keeps : goal.holds-returns-in-Leaf-clause-keeps
holds-returns-in-Leaf-clause-keeps g t c = then_step no_step c.eval_with.ensures.keeps

pub holds-returns-in_ok-found-in-Pair-clause-keeps : goal.holds-returns-in_ok-found-in-Pair-clause-keeps
holds-returns-in_ok-found-in-Pair-clause-keeps g t c = steps_joined c.holds.ensures.keeps c.pair_holds.ensures.keeps

pub pair_holds-returns-then-not-asks-clause-keeps : goal.pair_holds-returns-then-not-asks-clause-keeps
pair_holds-returns-then-not-asks-clause-keeps g t c = no_step

pub viewed_hold-returns-in_err-members-clause-keeps : goal.viewed_hold-returns-in_err-members-clause-keeps
viewed_hold-returns-in_err-members-clause-keeps g t c = no_step

pub viewed_hold-returns-in-None-clause-keeps : goal.viewed_hold-returns-in-None-clause-keeps
viewed_hold-returns-in-None-clause-keeps g t c = no_step

pub parts_hold-loop-index-init : goal.parts_hold-loop-index-init
parts_hold-loop-index-init g t c = (search rules, no_step)

pub parts_hold-returns-in-Some-clause-keeps : goal.parts_hold-returns-in-Some-clause-keeps
parts_hold-returns-in-Some-clause-keeps g t c = c.loop-index.invariant.1

pub parts_hold-returns-in_err-verdict-clause-keeps : goal.parts_hold-returns-in_err-verdict-clause-keeps
parts_hold-returns-in_err-verdict-clause-keeps g t c = steps_joined c.loop-index.invariant.1 c.holds.ensures.keeps

pub parts_hold-returns-clause-keeps : goal.parts_hold-returns-clause-keeps
parts_hold-returns-clause-keeps g t c = c.loop-index.invariant.1

pub members_hold-loop-index-init : goal.members_hold-loop-index-init
members_hold-loop-index-init g t c = (search rules, no_step)

pub members_hold-returns-in-Some-clause-keeps : goal.members_hold-returns-in-Some-clause-keeps
members_hold-returns-in-Some-clause-keeps g t c = c.loop-index.invariant.1

pub members_hold-returns-in_err-verdict-clause-keeps : goal.members_hold-returns-in_err-verdict-clause-keeps
members_hold-returns-in_err-verdict-clause-keeps g t c = steps_joined c.loop-index.invariant.1 c.holds.ensures.keeps

pub members_hold-returns-clause-keeps : goal.members_hold-returns-clause-keeps
members_hold-returns-clause-keeps g t c = c.loop-index.invariant.1
