use Rattle.std.proofs.Common.{ap, ◌∙◌}
use Rattle.std.proofs.lemmas.Iterator.{YieldsList-from_slice, items_from_drains}
use Rattle.predicates_item.specs.Multiset.{referred}
use Rattle.predicates_item.proofs.iter.differences.references.Goals as goal

pub returns : goal.returns
returns g c =
    let ran = c.in_ok-references.ensures.ran in
    ap referred ran.4.0 ∙ items_from_drains ran.1 ran.3 (YieldsList-from_slice c.args.list.now ran.2.0)
