use Rattle.std.proofs.Common.{◌≡◌, ◌+◌, suc, arith, ap, ◌∙◌}
use Rattle.predicates_tree.specs.Sizes.{size_of, sizes_of}
use Rattle.predicates_tree.proofs.Dropping.{smaller, sizes_last, then_waiting}
use Rattle.predicates_tree.proofs.take_apart.parts_apart.Goals as goal

pub returns-in-None : goal.returns-in-None
returns-in-None g c = then_waiting (suc (sizes_of c.args.parts.items)) c.args.waiting c.resumed.result (omega arith) c.resumed.ensures

pub returns-in-Some : goal.returns-in-Some
returns-in-Some g c =
    let parts : sizes_of c.args.parts.items ≡ sizes_of c.pop.new.self.items + size_of c.in-Some.last = ap sizes_of c.in-Some.ensures.items ∙ sizes_last c.pop.new.self.items c.in-Some.last in
    let total = c.last_first.ensures.total in
    let first = c.last_first.ensures.first in
    smaller c.last_first.result.0 (suc (sizes_of c.args.parts.items)) c.last_first.result.1 c.args.waiting (omega (arith, parts, total)) (omega (arith, parts, first))
