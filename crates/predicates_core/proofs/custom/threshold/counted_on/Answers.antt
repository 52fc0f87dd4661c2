use Rattle.std.proofs.Common.{sym}
use Rattle.predicates_core.proofs.Tallies.{tally_answer}
use Rattle.predicates_core.proofs.custom.threshold.counted_on.Goals as goal

pub returns : goal.returns
returns g c =
    let x = tally_answer (g.A.Ask.formula_of c.args.common.now) c.args.tally.sought (g.W.Display.output c.args.list.whole.now) c.args.list.name.now c.args.members.now c.loop-list.tally.seen c.loop-list.tally c.answer.result (sym c.requires.number) c.loop-list.invariant c.answer.ensures.settled c.answer.ensures.counted in
    rw (c.requires.turns, c.requires.least) at x
