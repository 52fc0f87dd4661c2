use Rattle.std.proofs.Common.{length}
use Rattle.predicates_tree.specs.Formulas.{check_text, Has, HasOn}
use Rattle.predicates_tree.specs.Questions.{sought_by}
use Rattle.predicates_tree.proofs.QuotaTallies.{IsTallyBy}
use Rattle.predicates_tree.proofs.answer.+answer.Given as goal

abbrev pub invariant-parts_answered-loop-part : goal.invariant-parts_answered-loop-part
invariant-parts_answered-loop-part g l = IsTallyBy l.fn.list.quota (sought_by l.fn.list.quota g.L.Answers.turns l.fn.wanted (length l.parts)) (check_text g.L.Display.output g.V.Display.output g.S.Wording.words l.counting.whole.now) l.counting.name.now (Has g.L.Display.output g.V.Display.output g.L.Predicate.formula g.V.View.gives g.V.View.absence_of g.S.Wording.words l.item) l.parts l.part-index l.tally

abbrev pub invariant-members_answered-loop-member : goal.invariant-members_answered-loop-member
invariant-members_answered-loop-member g l = IsTallyBy l.fn.list.quota (sought_by l.fn.list.quota g.L.Answers.turns l.fn.wanted (length l.members)) (check_text g.L.Display.output g.V.Display.output g.S.Wording.words l.counting.whole.now) l.counting.name.now (HasOn g.L.Display.output g.V.Display.output g.L.Predicate.formula g.V.View.gives g.V.View.absence_of g.S.Wording.words l.inner) l.members l.member-index l.tally
