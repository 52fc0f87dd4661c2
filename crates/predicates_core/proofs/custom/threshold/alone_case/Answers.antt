use Rattle.std.proofs.Common.{arith, sym, subst, ap, ◌∙◌, take, length, ◌+◌, ◌≡◌}
use Rattle.predicates_core.specs.Tally.{IsTallyOf, IsFront}
use Rattle.predicates_core.proofs.Tallies.{front_may, none_decides, tally_none, tally_counted}
use Rattle.predicates_core.proofs.custom.threshold.alone_case.Goals as goal

pub count-requires-clause-held : goal.count-requires-clause-held
count-requires-clause-held g c = (front_may c.args.expected c.new-tally.result.sought c.new-tally.result.held.count c.new-tally.result.failed.count (length c.args.members.now) c.alike-spare.result c.in_ok-front.front.passed (ap (λ s. s.wanted) c.new-tally.ensures.sought) (ap (λ s. s.number) c.new-tally.ensures.sought) (ap (λ s. s.least) c.new-tally.ensures.sought ∙ c.requires.alone) c.alike-spare.ensures.held c.alike-spare.ensures.failed
    c.in_ok-front.ensures.front.passed_are.held c.in_ok-front.ensures.front.passed_are.failed c.new-tally.ensures.held c.new-tally.ensures.failed).0

pub count-requires-clause-failed : goal.count-requires-clause-failed
count-requires-clause-failed g c = (front_may c.args.expected c.new-tally.result.sought c.new-tally.result.held.count c.new-tally.result.failed.count (length c.args.members.now) c.alike-spare.result c.in_ok-front.front.passed (ap (λ s. s.wanted) c.new-tally.ensures.sought) (ap (λ s. s.number) c.new-tally.ensures.sought) (ap (λ s. s.least) c.new-tally.ensures.sought ∙ c.requires.alone) c.alike-spare.ensures.held c.alike-spare.ensures.failed
    c.in_ok-front.ensures.front.passed_are.held c.in_ok-front.ensures.front.passed_are.failed c.new-tally.ensures.held c.new-tally.ensures.failed).1

pub counted_on-requires-clause-tally : goal.counted_on-requires-clause-tally
counted_on-requires-clause-tally g c =
    let has = g.A.Ask.formula_of c.args.common.now in
    let s = c.count.new.self.sought in
    let text = g.W.Display.output c.args.list.whole.now in
    let name = c.args.list.name.now in
    let passed = c.in_ok-front.front.passed in
    let seen : 0 + (passed.held + passed.failed) ≡ c.count.new.self.seen = omega (arith, c.count.ensures.seen, c.new-tally.ensures.seen) in
    subst (λ n. IsTallyOf s text name has (take n c.args.members.now) c.count.new.self) seen
    (tally_counted has s text name c.args.members.now 0 c.new-tally.result c.count.new.self passed.held passed.failed (tally_none has s text name c.new-tally.result (sym c.count.ensures.sought) c.new-tally.ensures.seen (c.new-tally.ensures.tally text name))
    c.in_ok-front.ensures.front.passed_are.counted c.count.ensures.sought c.count.ensures.seen (c.count.ensures.counts text name))

pub returns-in-None : goal.returns-in-None
returns-in-None g c = none_decides (g.A.Ask.formula_of c.args.common.now) c.args.expected c.args.members.now c.alike-spare.result c.in_ok-front.front.passed c.args.list.least c.requires.alone c.alike-spare.ensures.held c.alike-spare.ensures.failed
    (subst (IsFront (g.A.Ask.formula_of c.args.common.now) c.alike-spare.result c.args.members.now c.in_ok-front.front.passed) c.in-None.is c.in_ok-front.ensures.front)
