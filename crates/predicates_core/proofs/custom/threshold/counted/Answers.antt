use Rattle.std.proofs.Common.{refl}
use Rattle.predicates_core.proofs.Tallies.{tally_begun}
use Rattle.predicates_core.proofs.custom.threshold.counted.Goals as goal

pub counted_on-requires-clause-tally : goal.counted_on-requires-clause-tally
counted_on-requires-clause-tally g c = tally_begun (g.A.Ask.formula_of c.args.common.now) c.new-tally.result.sought (g.W.Display.output c.args.list.whole.now) c.args.list.name.now c.args.members.now c.new-tally.result refl c.new-tally.ensures.seen (c.new-tally.ensures.tally _ _)
