use Rattle.std.proofs.Common.{arith, ◌+◌, subst, sym, drop, length-drop, take_all}
use Rattle.predicates_core.specs.Tally.{kind_of, asks, IsAt, IsNext, IsAsked, Takes}
use Rattle.predicates_core.specs.Shows.{IsFoundBy}
use Rattle.predicates_core.proofs.Tally.{still_asks}
use Rattle.predicates_core.proofs.Tallies.{tally_front, tally_behind}
use Rattle.predicates_core.proofs.custom.threshold.count_next.Goals as goal

pub take-requires-clause-asked : goal.take-requires-clause-asked
take-requires-clause-asked g c =
    let t = c.args.tally.now in
    let passed = c.in_ok-next.next.passed in
    let rest = drop t.seen c.args.members.now in
    let long = length-drop t.seen c.args.members.now in
    let all = take_all _ rest (omega (arith, long)) in
    let next = subst (λ l. IsNext (kind_of g.K.Seeks.turns) (g.A.Ask.formula_of c.args.common.now) c.asks-asks.result c.spare.result l passed c.in_ok-next.next.told) all c.in_ok-next.ensures in
    let are = next.passed_are in
    let ends = (subst (IsNext (kind_of g.K.Seeks.turns) (g.A.Ask.formula_of c.args.common.now) c.asks-asks.result c.spare.result rest passed) c.in-Some.is next).ends in
    let few = ends.1.1 in
    let same = still_asks (g.W.Display.output c.args.list.whole.now) c.args.list.name.now t c.requires.open c.spare.result passed c.spare.ensures.held c.spare.ensures.failed are.held are.failed c.asks-asks.result (sym c.asks-asks.ensures) next.held next.failed
    c.count.new.self (omega (arith, c.requires.number)) c.count.ensures.sought c.count.ensures.absent (omega (arith, few, long, c.count.ensures.seen, c.requires.number)) c.count.ensures.held c.count.ensures.failed in
    subst (λ t. IsAsked (asks c.count.new.self) t.asked t.found) (sym c.in-Some.told-is) (subst (λ a. IsAsked a c.in-Some.told.asked c.in-Some.told.found) (sym same) ends.0)

pub returns-in_ok-take-in-Some-clause-tally : goal.returns-in_ok-take-in-Some-clause-tally
returns-in_ok-take-in-Some-clause-tally g c =
    let t = c.args.tally.now in
    let passed = c.in_ok-next.next.passed in
    let rest = drop t.seen c.args.members.now in
    let long = length-drop t.seen c.args.members.now in
    let all = take_all _ rest (omega (arith, long)) in
    let next = subst (λ l. IsNext (kind_of g.K.Seeks.turns) (g.A.Ask.formula_of c.args.common.now) c.asks-asks.result c.spare.result l passed c.in_ok-next.next.told) all c.in_ok-next.ensures in
    let ends = (subst (IsNext (kind_of g.K.Seeks.turns) (g.A.Ask.formula_of c.args.common.now) c.asks-asks.result c.spare.result rest passed) c.in-Some.is next).ends in
    let at = subst (λ k. IsAt rest (passed.held + passed.failed) (λ u. IsFoundBy (kind_of k) (g.A.Ask.formula_of c.args.common.now u) c.in-Some.told.asked c.in-Some.told.found)) (sym c.requires.turns) ends.1 in
    tally_behind (g.A.Ask.formula_of c.args.common.now) t.sought (g.W.Display.output c.args.list.whole.now) c.args.list.name.now c.args.members.now c.count.new.self c.take.new.self t.seen _ c.in-Some.told
    (tally_front (g.A.Ask.formula_of c.args.common.now) t.sought (g.W.Display.output c.args.list.whole.now) c.args.list.name.now c.args.members.now t c.count.new.self c.spare.result passed c.requires.tally next.passed_are c.count.ensures.sought c.count.ensures.seen (c.count.ensures.counts _ _))
    c.count.ensures.seen at c.in_ok-take-in-Some.ensures.sought c.in_ok-take-in-Some.ensures.seen (subst (λ t. Takes (g.W.Display.output c.args.list.whole.now) c.args.list.name.now t.asked t.found c.count.new.self c.take.new.self) c.in-Some.told-is c.in_ok-take-in-Some.ensures.takes)

pub returns-in-None-clause-tally : goal.returns-in-None-clause-tally
returns-in-None-clause-tally g c =
    let t = c.args.tally.now in
    let long = length-drop t.seen c.args.members.now in
    let all = take_all _ (drop t.seen c.args.members.now) (omega (arith, long)) in
    let next = subst (λ l. IsNext (kind_of g.K.Seeks.turns) (g.A.Ask.formula_of c.args.common.now) c.asks-asks.result c.spare.result l c.in_ok-next.next.passed c.in_ok-next.next.told) all c.in_ok-next.ensures in
    tally_front (g.A.Ask.formula_of c.args.common.now) t.sought (g.W.Display.output c.args.list.whole.now) c.args.list.name.now c.args.members.now t c.count.new.self c.spare.result c.in_ok-next.next.passed c.requires.tally next.passed_are c.count.ensures.sought c.count.ensures.seen (c.count.ensures.counts _ _)
