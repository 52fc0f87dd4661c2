use Rattle.std.proofs.Common.{arith}
use Rattle.vet_run.specs.Objects.{product_text}
use Rattle.vet_run.proofs.Listing.{later_more, listed_more}
use Rattle.vet_run.proofs.object.push_products.Goals as goal

pub loop-product-preserved : goal.loop-product-preserved
loop-product-preserved c = record {
  later = later_more c.args.products.now c.loop-product.product-index c.product-item.result (omega arith) c.product-item.is;
  text = listed_more product_text c.args.products.now c.loop-product.product-index c.product-item.result c.loop-product.later _ _ _ _ (omega arith) c.product-item.is c.loop-product.invariant.later c.loop-product.invariant.text c.in_ok-push_comma.ensures c.in_ok-push_product.ensures;
}
