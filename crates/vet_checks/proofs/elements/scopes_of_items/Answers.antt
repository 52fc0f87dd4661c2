use Rattle.std.proofs.Common.{arith, refl}
use Rattle.serde_json.specs.View.{view}
use Rattle.vet_checks.proofs.Listing.{item_more, items_all}
use Rattle.vet_checks.proofs.elements.scopes_of_items.Goals as goal

pub loop-item-init : goal.loop-item-init
loop-item-init c = rw c.in_ok-scopes.ensures.items refl

pub loop-item-preserved : goal.loop-item-preserved
loop-item-preserved c = rw c.in_ok-push.ensures.items (item_more (view c.args.whole.now) c.loop-item.scopes.items _ c.args.items.now c.loop-item.item-index c.item-item.result (omega arith) c.item-item.is refl c.loop-item.invariant)

pub returns : goal.returns
returns c = items_all (view c.args.whole.now) c.loop-item.scopes.items c.args.items.now c.loop-item.item-index (omega arith) c.loop-item.invariant
