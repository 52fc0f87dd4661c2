use Rattle.std.proofs.Common.{string_bytes}
use Rattle.predicates_core.proofs.Found.{nothing_of_not, found_of_not}
use Rattle.predicates_core.specs.Tally.{kind_of}
use Rattle.explain_words.specs.Checks.{check_text, HasFormula}
use Rattle.explain_words.proofs.Joined.{nothing_in_turn, found_in_turn, found_of_node}
use Rattle.explain_words.proofs.check.TextCheck.+answer.Goals as goal

pub answer_not-returns-in_default : goal.answer_not-returns-in_default
answer_not-returns-in_default t c = rw (c.requires) (nothing_of_not (kind_of c.args.question.turns) _ _ c.args.question.wanted (rw (← c.opposite_of-wanted.ensures, ← c.in_default.is) c.in_ok-answer_into.ensures))

pub answer_not-returns : goal.answer_not-returns
answer_not-returns t c = found_of_not (kind_of c.args.question.turns) _ _ c.args.question.wanted (rw (c.result-outcome.ensures, c.root.ensures.value) at c.in_ok-unary_node.ensures) c.in_ok-text.ensures (rw (← c.opposite_of-wanted.ensures, ← c.in-Some.is) c.in_ok-answer_into.ensures)

pub answer_join-returns-then-is_other : goal.answer_join-returns-then-is_other
answer_join-returns-then-is_other t c = rw (c.requires, ← c.operator-operator.ensures) (nothing_in_turn c.operator-operator.result c.args.question.wanted c.answer_into.new.found c.answer_right.new.found (check_text c.args.self.now) (HasFormula c.args.parts.left.now (string_bytes c.args.question.item.now)) (HasFormula c.args.parts.right.now (string_bytes c.args.question.item.now)) _ (kind_of c.args.question.turns)
    c.left_wanted-wanted.ensures c.in_ok-answer_into.ensures c.shown_verdict-left_holds.ensures c.in_ok-right_holds.ensures c.apply-holds.ensures (rw (← c.is_other.ensures) c.if-is_other.true))

pub answer_join-returns : goal.answer_join-returns
answer_join-returns t c = rw (← c.operator-operator.ensures) (found_of_node (kind_of c.args.question.turns) c.args.self.now _ _ _ c.args.question.wanted c.write_node.new.found (rw (c.kept_if-kept.ensures) at c.in_ok-write_node.ensures) (λ bytes t fits written. found_in_turn c.operator-operator.result c.args.question.wanted c.answer_into.new.found c.answer_right.new.found (check_text c.args.self.now) (HasFormula c.args.parts.left.now (string_bytes c.args.question.item.now)) (HasFormula c.args.parts.right.now (string_bytes c.args.question.item.now)) _ (kind_of c.args.question.turns) bytes
    c.left_wanted-wanted.ensures c.in_ok-answer_into.ensures c.shown_verdict-left_holds.ensures c.in_ok-right_holds.ensures c.apply-holds.ensures (rw (← c.is_other.ensures) c.if-is_other.false)
    c.keeps.ensures written fits))
