use Rattle.std.proofs.Common.{◌≡◌, ◌++◌, false, map, take}
use Rattle.std.specs.Prelude.{string_bytes}
use Rattle.vet_run.specs.Objects.{listed, product_text}
use Rattle.vet_run.proofs.Listing.{some_in}
use Rattle.vet_run.proofs.object.push_products.Given as goal

abbrev pub invariant-loop-product : goal.invariant-loop-product
invariant-loop-product l = record {
  later : l.later ≡ some_in (take l.product-index l.products);
  text : string_bytes l.text ≡ string_bytes l.initial.text ++ listed false (map product_text (take l.product-index l.products));
}
