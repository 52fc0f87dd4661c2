use Rattle.std.proofs.Common.{◌≡◌, ◌∙◌, ap, Some, option_map, sym, rules, arith, subst, string_bytes, refl, length}
use Rattle.std.proofs.lemmas.Grind.{common_steps}
use Rattle.predicates_core.specs.Label.{Fits}
use Rattle.predicates_tree.specs.declared.check.Check.TheFolds.{the_lemmas}
use Rattle.predicates_tree.specs.Viewed.{members_in}
use Rattle.predicates_tree.specs.Trees.{Named, AllOf, tree_of}
use Rattle.predicates_tree.specs.Formulas.{tree_text, check_text, Has, HasOn}
use Rattle.predicates_tree.proofs.Unrolled.{row_whole}
use Rattle.predicates_tree.proofs.Rows.{row_lawful, each_at, of_parts}
use Rattle.predicates_core.specs.Tally.{kind_of}
use Rattle.predicates_core.proofs.Found.{nothing_of_not, found_of_not, nothing_of_named, found_of_named}
use Rattle.predicates_core.proofs.Fewer.{fewer_found}
use Rattle.predicates_tree.specs.Questions.{sought_by}
use Rattle.predicates_tree.proofs.QuotaTallies.{starts, has_room, one_more, all_seen, answered}
use Rattle.predicates_tree.proofs.Answered.{right_passed, right_found, pair_none, pair_some, absent_answered}
use Rattle.predicates_tree.proofs.answer.+answer.Goals as goal

pub not_answered-returns-in_default : goal.not_answered-returns-in_default
not_answered-returns-in_default g t c = rw c.requires.whole (nothing_of_not (kind_of g.L.Answers.turns) _ _ c.args.asked.wanted (rw (← c.opposite_of-wanted.ensures, ← c.in_default.is) c.in_ok-part.ensures))

pub not_answered-returns : goal.not_answered-returns
not_answered-returns g t c =
    let fits : Fits (check_text g.L.Display.output g.V.Display.output g.S.Wording.words c.args.asked.whole.now) (string_bytes c.in_ok-text.text) = c.in_ok-text.ensures in
    rw c.requires.whole (found_of_not (kind_of g.L.Answers.turns) _ _ c.args.asked.wanted (rw (c.result-outcome.ensures, c.root.ensures.value) at c.in_ok-node.ensures) (subst (λ z. Fits (tree_text g.L.Display.output g.V.Display.output z) (string_bytes c.in_ok-text.text)) c.requires.whole fits) (rw (← c.opposite_of-wanted.ensures, ← c.in-Some.is) c.in_ok-part.ensures))

pub named_answered-returns-in_default : goal.named_answered-returns-in_default
named_answered-returns-in_default g t c =
    let is : tree_of g.S.Wording.words c.args.asked.whole.now ≡ Named c.args.name.now (tree_of g.S.Wording.words c.args.inner.now) = search rules in
    rw is (nothing_of_named (kind_of g.L.Answers.turns) _ _ c.args.asked.wanted (rw c.in_default.is at c.in_ok-part.ensures))

pub named_answered-returns : goal.named_answered-returns
named_answered-returns g t c =
    let is : tree_of g.S.Wording.words c.args.asked.whole.now ≡ Named c.args.name.now (tree_of g.S.Wording.words c.args.inner.now) = search rules in
    rw is (found_of_named (kind_of g.L.Answers.turns) _ _ c.args.asked.wanted (rw (c.result-outcome.ensures, c.root.ensures.value) at c.in_ok-node.ensures) (search rules) (rw c.in-Some.is at c.in_ok-part.ensures))

pub right_told-returns-then-not-is_asked : goal.right_told-returns-then-not-is_asked
right_told-returns-then-not-is_asked g t c = right_passed (Has g.L.Display.output g.V.Display.output g.L.Predicate.formula g.V.View.gives g.V.View.absence_of g.S.Wording.words c.args.item.now c.args.part.now) g.L.Answers.turns c.args.operator c.args.left_holds c.args.wanted _ c.right_wanted-asked.ensures (rw (← c.turns-turns.ensures, ← c.is_asked.ensures) c.if-not-is_asked.true)

pub right_told-returns : goal.right_told-returns
right_told-returns g t c = right_found (Has g.L.Display.output g.V.Display.output g.L.Predicate.formula g.V.View.gives g.V.View.absence_of g.S.Wording.words c.args.item.now c.args.part.now) g.L.Answers.turns c.args.operator c.args.left_holds c.args.wanted _ _ (rw (← c.turns-turns.ensures, ← c.is_asked.ensures) c.if-not-is_asked.false) (rw (c.right_asks.ensures, c.turns-turns.ensures, c.right_wanted-asked.ensures) at c.in_ok-told.ensures.asked) c.in_ok-told.ensures.found

pub pair_answered-returns-then-is_other : goal.pair_answered-returns-then-is_other
pair_answered-returns-then-is_other g t c = rw c.requires.whole (pair_none c.args.left.operator c.args.asked.wanted c.args.left.found c.in_ok-right.right.found _ (Has g.L.Display.output g.V.Display.output g.L.Predicate.formula g.V.View.gives g.V.View.absence_of g.S.Wording.words c.args.asked.item.now c.args.left.part.now) (Has g.L.Display.output g.V.Display.output g.L.Predicate.formula g.V.View.gives g.V.View.absence_of g.S.Wording.words c.args.asked.item.now c.args.right_part.now) _ c.in_ok-right.right.asked g.L.Answers.turns
    c.left_wanted.ensures (rw c.left_wanted.ensures c.requires.left) c.shown_verdict-left_holds.ensures c.in_ok-right.ensures c.shown_verdict-right_holds.ensures c.apply-holds.ensures (rw (← c.is_other.ensures) c.if-is_other.true))

pub pair_answered-returns : goal.pair_answered-returns
pair_answered-returns g t c =
    let fits : Fits (check_text g.L.Display.output g.V.Display.output g.S.Wording.words c.args.asked.whole.now) (string_bytes c.in_ok-text.text) = c.in_ok-text.ensures in
    rw c.requires.whole (pair_some c.args.left.operator c.args.asked.wanted c.args.left.found c.in_ok-right.right.found _ (Has g.L.Display.output g.V.Display.output g.L.Predicate.formula g.V.View.gives g.V.View.absence_of g.S.Wording.words c.args.asked.item.now c.args.left.part.now) (Has g.L.Display.output g.V.Display.output g.L.Predicate.formula g.V.View.gives g.V.View.absence_of g.S.Wording.words c.args.asked.item.now c.args.right_part.now) _ c.in_ok-right.right.asked (string_bytes c.in_ok-text.text) g.L.Answers.turns
    c.left_wanted.ensures (rw c.left_wanted.ensures c.requires.left) c.shown_verdict-left_holds.ensures c.in_ok-right.ensures c.shown_verdict-right_holds.ensures c.apply-holds.ensures (rw (← c.is_other.ensures) c.if-is_other.false)
    c.keeps.ensures (rw (← c.kept_if-kept.ensures) c.in_ok-node.ensures) (subst (λ z. Fits (tree_text g.L.Display.output g.V.Display.output z) (string_bytes c.in_ok-text.text)) c.requires.whole fits))

pub row_answered-returns : goal.row_answered-returns
row_answered-returns g t c = rw c.requires.whole (fewer_found (kind_of g.L.Answers.turns) c.args.asked.wanted c.in_ok-found.found (of_parts g.L.Display.output g.V.Display.output g.L.Predicate.formula g.V.View.gives g.V.View.absence_of g.S.Wording.words c.args.asked.item.now _ c.args.quota c.args.parts.now) (rw (c.part.ensures, c.requires.whole) at c.in_ok-found.ensures))

pub answered-row_answered-requires : goal.answered-row_answered-requires
answered-row_answered-requires g t c κs within =
    (grind (the_lemmas, arith, common_steps) steps 30000000, (within.0, (within.1.0, (within.1.1.0, (within.1.1.1.0, (within.1.1.1.1.0, (within.1.1.1.1.1, (row_lawful g.L.Predicate.lawful g.S.Wording.words c.in-Row.parts c.in-Row.is c.deref-in-Row.ensures.value c.requires, row_whole g.S.Wording.words c.in-Row.parts c.in-Row.is c.deref-in-Row.ensures.value))))))))

pub viewed_answered-returns-in_ok-found-in-Some : goal.viewed_answered-returns-in_ok-found-in-Some
viewed_answered-returns-in_ok-found-in-Some g t c = rw c.requires.whole (fewer_found (kind_of g.L.Answers.turns) c.args.asked.wanted c.in_ok-found-in-Some.found
    (λ f x. x.of_list _ (subst (g.V.View.gives c.args.view.now c.args.asked.item.now) (ap (option_map (members_in g.V.Kept.Items.items_of)) c.in-Some.is ∙ ap Some (sym c.as_slice-members.ensures)) c.in_ok-members.ensures.listed)) (rw c.requires.whole at c.in_ok-found-in-Some.ensures))

pub viewed_answered-returns-in-None : goal.viewed_answered-returns-in-None
viewed_answered-returns-in-None g t c = rw c.requires.whole (absent_answered _ _ _ _ g.L.Answers.turns c.args.asked.wanted c.absent_found.result (subst (g.V.View.gives c.args.view.now c.args.asked.item.now) (ap (option_map (members_in g.V.Kept.Items.items_of)) c.in-None.is) c.in_ok-members.ensures.listed) (rw c.requires.whole at c.absent_found.ensures))

pub parts_answered-loop-part-init : goal.parts_answered-loop-part-init
parts_answered-loop-part-init g t c = starts (Has g.L.Display.output g.V.Display.output g.L.Predicate.formula g.V.View.gives g.V.View.absence_of g.S.Wording.words c.args.item.now) (check_text g.L.Display.output g.V.Display.output g.S.Wording.words c.counting-counting.result.whole.now) c.counting-counting.result.name.now c.args.parts.now c.args.list.quota (sought_by c.args.list.quota g.L.Answers.turns c.args.wanted (length c.args.parts.now)) c.new-tally.result (rw (c.sought-sought.ensures, c.turns.ensures) at c.new-tally.ensures)

pub parts_answered-take-requires-clause-room : goal.parts_answered-take-requires-clause-room
parts_answered-take-requires-clause-room g t c = has_room (Has g.L.Display.output g.V.Display.output g.L.Predicate.formula g.V.View.gives g.V.View.absence_of g.S.Wording.words c.args.item.now) (check_text g.L.Display.output g.V.Display.output g.S.Wording.words c.counting-counting.result.whole.now) c.counting-counting.result.name.now c.args.parts.now c.args.list.quota (sought_by c.args.list.quota g.L.Answers.turns c.args.wanted (length c.args.parts.now)) c.loop-part.part-index c.loop-part.tally refl (omega arith) (c.is_done.ensures.open c.if-is_done.false) c.loop-part.invariant

pub parts_answered-loop-part-preserved : goal.parts_answered-loop-part-preserved
parts_answered-loop-part-preserved g t c = one_more (Has g.L.Display.output g.V.Display.output g.L.Predicate.formula g.V.View.gives g.V.View.absence_of g.S.Wording.words c.args.item.now) (check_text g.L.Display.output g.V.Display.output g.S.Wording.words c.counting-counting.result.whole.now) c.counting-counting.result.name.now c.args.parts.now c.args.list.quota (sought_by c.args.list.quota g.L.Answers.turns c.args.wanted (length c.args.parts.now)) c.loop-part.tally c.take.new.self c.in_ok-told.told.asked c.in_ok-told.told.found (omega arith) c.part-item.is (c.is_done.ensures.open c.if-is_done.false) c.loop-part.invariant (rw c.asks.ensures at c.in_ok-told.ensures.asked) c.in_ok-told.ensures.found c.in_ok-take.ensures

pub parts_answered-returns-then-is_done : goal.parts_answered-returns-then-is_done
parts_answered-returns-then-is_done g t c = rw (c.counting-counting.ensures.whole, c.counting-counting.ensures.name) at (answered (Has g.L.Display.output g.V.Display.output g.L.Predicate.formula g.V.View.gives g.V.View.absence_of g.S.Wording.words c.args.item.now) (check_text g.L.Display.output g.V.Display.output g.S.Wording.words c.counting-counting.result.whole.now) c.counting-counting.result.name.now c.args.parts.now c.args.list.quota g.L.Answers.turns c.args.wanted c.loop-part.part-index c.loop-part.tally c.answer.result (omega arith) (c.is_done.ensures.done c.if-is_done.true) c.loop-part.invariant c.answer.ensures)

pub parts_answered-answer-requires-2 : goal.parts_answered-answer-requires-2
parts_answered-answer-requires-2 g t c = all_seen (Has g.L.Display.output g.V.Display.output g.L.Predicate.formula g.V.View.gives g.V.View.absence_of g.S.Wording.words c.args.item.now) (check_text g.L.Display.output g.V.Display.output g.S.Wording.words c.counting-counting.result.whole.now) c.counting-counting.result.name.now c.args.parts.now c.args.list.quota (sought_by c.args.list.quota g.L.Answers.turns c.args.wanted (length c.args.parts.now)) c.loop-part.part-index c.loop-part.tally refl (omega arith) c.loop-part.invariant

pub parts_answered-returns : goal.parts_answered-returns
parts_answered-returns g t c = rw (c.counting-counting.ensures.whole, c.counting-counting.ensures.name) at (answered (Has g.L.Display.output g.V.Display.output g.L.Predicate.formula g.V.View.gives g.V.View.absence_of g.S.Wording.words c.args.item.now) (check_text g.L.Display.output g.V.Display.output g.S.Wording.words c.counting-counting.result.whole.now) c.counting-counting.result.name.now c.args.parts.now c.args.list.quota g.L.Answers.turns c.args.wanted c.loop-part.part-index c.loop-part.tally c.answer-2.result (omega arith) (all_seen (Has g.L.Display.output g.V.Display.output g.L.Predicate.formula g.V.View.gives g.V.View.absence_of g.S.Wording.words c.args.item.now) (check_text g.L.Display.output g.V.Display.output g.S.Wording.words c.counting-counting.result.whole.now) c.counting-counting.result.name.now c.args.parts.now c.args.list.quota (sought_by c.args.list.quota g.L.Answers.turns c.args.wanted (length c.args.parts.now)) c.loop-part.part-index c.loop-part.tally refl (omega arith) c.loop-part.invariant) c.loop-part.invariant c.answer-2.ensures)

pub members_answered-loop-member-init : goal.members_answered-loop-member-init
members_answered-loop-member-init g t c = starts (HasOn g.L.Display.output g.V.Display.output g.L.Predicate.formula g.V.View.gives g.V.View.absence_of g.S.Wording.words c.args.inner.now) (check_text g.L.Display.output g.V.Display.output g.S.Wording.words c.counting-counting.result.whole.now) c.counting-counting.result.name.now c.args.members.now c.args.list.quota (sought_by c.args.list.quota g.L.Answers.turns c.args.wanted (length c.args.members.now)) c.new-tally.result (rw (c.sought-sought.ensures, c.turns.ensures) at c.new-tally.ensures)

pub members_answered-take-requires-clause-room : goal.members_answered-take-requires-clause-room
members_answered-take-requires-clause-room g t c = has_room (HasOn g.L.Display.output g.V.Display.output g.L.Predicate.formula g.V.View.gives g.V.View.absence_of g.S.Wording.words c.args.inner.now) (check_text g.L.Display.output g.V.Display.output g.S.Wording.words c.counting-counting.result.whole.now) c.counting-counting.result.name.now c.args.members.now c.args.list.quota (sought_by c.args.list.quota g.L.Answers.turns c.args.wanted (length c.args.members.now)) c.loop-member.member-index c.loop-member.tally refl (omega arith) (c.is_done.ensures.open c.if-is_done.false) c.loop-member.invariant

pub members_answered-loop-member-preserved : goal.members_answered-loop-member-preserved
members_answered-loop-member-preserved g t c = one_more (HasOn g.L.Display.output g.V.Display.output g.L.Predicate.formula g.V.View.gives g.V.View.absence_of g.S.Wording.words c.args.inner.now) (check_text g.L.Display.output g.V.Display.output g.S.Wording.words c.counting-counting.result.whole.now) c.counting-counting.result.name.now c.args.members.now c.args.list.quota (sought_by c.args.list.quota g.L.Answers.turns c.args.wanted (length c.args.members.now)) c.loop-member.tally c.take.new.self c.in_ok-told.told.asked c.in_ok-told.told.found (omega arith) c.member-item.is (c.is_done.ensures.open c.if-is_done.false) c.loop-member.invariant (rw c.asks.ensures at c.in_ok-told.ensures.asked) c.in_ok-told.ensures.found c.in_ok-take.ensures

pub members_answered-returns-then-is_done : goal.members_answered-returns-then-is_done
members_answered-returns-then-is_done g t c = rw (c.counting-counting.ensures.whole, c.counting-counting.ensures.name) at (answered (HasOn g.L.Display.output g.V.Display.output g.L.Predicate.formula g.V.View.gives g.V.View.absence_of g.S.Wording.words c.args.inner.now) (check_text g.L.Display.output g.V.Display.output g.S.Wording.words c.counting-counting.result.whole.now) c.counting-counting.result.name.now c.args.members.now c.args.list.quota g.L.Answers.turns c.args.wanted c.loop-member.member-index c.loop-member.tally c.answer.result (omega arith) (c.is_done.ensures.done c.if-is_done.true) c.loop-member.invariant c.answer.ensures)

pub members_answered-answer-requires-2 : goal.members_answered-answer-requires-2
members_answered-answer-requires-2 g t c = all_seen (HasOn g.L.Display.output g.V.Display.output g.L.Predicate.formula g.V.View.gives g.V.View.absence_of g.S.Wording.words c.args.inner.now) (check_text g.L.Display.output g.V.Display.output g.S.Wording.words c.counting-counting.result.whole.now) c.counting-counting.result.name.now c.args.members.now c.args.list.quota (sought_by c.args.list.quota g.L.Answers.turns c.args.wanted (length c.args.members.now)) c.loop-member.member-index c.loop-member.tally refl (omega arith) c.loop-member.invariant

pub members_answered-returns : goal.members_answered-returns
members_answered-returns g t c = rw (c.counting-counting.ensures.whole, c.counting-counting.ensures.name) at (answered (HasOn g.L.Display.output g.V.Display.output g.L.Predicate.formula g.V.View.gives g.V.View.absence_of g.S.Wording.words c.args.inner.now) (check_text g.L.Display.output g.V.Display.output g.S.Wording.words c.counting-counting.result.whole.now) c.counting-counting.result.name.now c.args.members.now c.args.list.quota g.L.Answers.turns c.args.wanted c.loop-member.member-index c.loop-member.tally c.answer-2.result (omega arith) (all_seen (HasOn g.L.Display.output g.V.Display.output g.L.Predicate.formula g.V.View.gives g.V.View.absence_of g.S.Wording.words c.args.inner.now) (check_text g.L.Display.output g.V.Display.output g.S.Wording.words c.counting-counting.result.whole.now) c.counting-counting.result.name.now c.args.members.now c.args.list.quota (sought_by c.args.list.quota g.L.Answers.turns c.args.wanted (length c.args.members.now)) c.loop-member.member-index c.loop-member.tally refl (omega arith) c.loop-member.invariant) c.loop-member.invariant c.answer-2.ensures)

pub parts_answered-part_told-requires : goal.parts_answered-part_told-requires
parts_answered-part_told-requires g t c κs within =
    (grind (the_lemmas, arith, common_steps) steps 30000000, (within.0, (within.1.0, (within.1.1.0, (within.1.1.1.0, (within.1.1.1.1.0, (within.1.1.1.1.1, each_at (AllOf g.L.Predicate.lawful g.S.Wording.words) c.args.parts.now c.loop-part.part-index c.part-item.result c.requires (omega arith) c.part-item.is)))))))
