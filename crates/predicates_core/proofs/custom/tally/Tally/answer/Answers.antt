use Rattle.std.proofs.Common.{arith, refl, sym, ◌∙◌}
use Rattle.predicates_core.proofs.TallyAnswers.{settled_answer, settled_answers, absent_answers, held_answers, failed_answers, other_answers}
use Rattle.predicates_core.proofs.custom.tally.Tally.answer.Goals as goal

pub returns-then-is_settled-clause-settled : goal.returns-then-is_settled-clause-settled
returns-then-is_settled-clause-settled g c = λ is. settled_answer (g.W.Display.output c.args.list.whole.now) c.args.self c.settled_case.result c.settled_case.ensures

pub returns-then-is_settled-clause-counted : goal.returns-then-is_settled-clause-counted
returns-then-is_settled-clause-counted g c = settled_answers (g.W.Display.output c.args.list.whole.now) c.args.list.name.now c.args.self c.settled_case.result (c.is_settled.ensures.settled c.if-is_settled.true)
    (settled_answer (g.W.Display.output c.args.list.whole.now) c.args.self c.settled_case.result c.settled_case.ensures)

pub returns-then-absent-clause-counted : goal.returns-then-absent-clause-counted
returns-then-absent-clause-counted g c = absent_answers (g.W.Display.output c.args.list.whole.now) c.args.list.name.now c.args.self (c.is_settled.ensures.some c.if-is_settled.false) (c.is_settled.ensures.within c.if-is_settled.false) c.requires _ c.if-absent.true

pub returns-then-is_other-clause-counted : goal.returns-then-is_other-clause-counted
returns-then-is_other-clause-counted g c = other_answers (g.W.Display.output c.args.list.whole.now) c.args.list.name.now c.args.self (c.is_settled.ensures.some c.if-is_settled.false) (c.is_settled.ensures.within c.if-is_settled.false) c.requires _ refl (sym c.is_other.ensures ∙ c.if-is_other.true)

pub returns-then-verdict-clause-counted : goal.returns-then-verdict-clause-counted
returns-then-verdict-clause-counted g c = held_answers (g.W.Display.output c.args.list.whole.now) c.args.list.name.now c.args.self (c.is_settled.ensures.some c.if-is_settled.false) (c.is_settled.ensures.within c.if-is_settled.false) c.requires _ (omega (arith, c.if-verdict.true)) (sym c.is_other.ensures ∙ c.if-is_other.false) c.answer.ensures.reason c.answer.ensures.change

pub returns-else-verdict-clause-counted : goal.returns-else-verdict-clause-counted
returns-else-verdict-clause-counted g c = failed_answers (g.W.Display.output c.args.list.whole.now) c.args.list.name.now c.args.self (c.is_settled.ensures.some c.if-is_settled.false) (c.is_settled.ensures.within c.if-is_settled.false) c.requires _ (omega (arith, c.if-verdict.false)) (sym c.is_other.ensures ∙ c.if-is_other.false) c.answer-else-verdict.ensures.reason (rw c.enough_of.ensures at c.answer-else-verdict.ensures.change)
