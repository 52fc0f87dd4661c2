use Rattle.std.proofs.Common.{sym, ◌∙◌}
use Rattle.predicates_core.proofs.Tally.{never_absent, takes_held, takes_failed}
use Rattle.predicates_core.proofs.custom.tally.Tally.take.Goals as goal

pub returns-then-is_absent-clause-takes : goal.returns-then-is_absent-clause-takes
returns-then-is_absent-clause-takes g c = λ fs f t x. absurd (never_absent _ f c.args.told.asked c.args.told.found (sym c.is_absent.ensures ∙ c.if-is_absent.true) x)

pub returns-in_ok-add-clause-takes : goal.returns-in_ok-add-clause-takes
returns-in_ok-add-clause-takes g c = takes_held (g.W.Display.output c.args.list.whole.now) c.args.list.name.now c.args.self.now c.requires.open c.args.told.asked c.args.told.found c.requires.asked (sym c.is_absent.ensures ∙ c.if-is_absent.false)
    c.add.new.self c.next-self.result (sym c.shown_verdict-verdict.ensures ∙ c.if-verdict.true) c.next-self.ensures c.next-self.type_inv c.in_ok-add.ensures.count (rw (c.in_ok-found.ensures, c.tells_numbers.ensures, c.if-verdict.true) at c.in_ok-add.ensures.node)

pub returns-in_ok-add-2-clause-takes : goal.returns-in_ok-add-2-clause-takes
returns-in_ok-add-2-clause-takes g c = takes_failed (g.W.Display.output c.args.list.whole.now) c.args.list.name.now c.args.self.now c.requires.open c.args.told.asked c.args.told.found c.requires.asked (sym c.is_absent.ensures ∙ c.if-is_absent.false)
    c.add-else-verdict.new.self c.next-self.result (sym c.shown_verdict-verdict.ensures ∙ c.if-verdict.false) c.next-self.ensures c.next-self.type_inv c.in_ok-add-2.ensures.count (rw (c.in_ok-found.ensures, c.tells_numbers.ensures, c.if-verdict.false) at c.in_ok-add-2.ensures.node)
