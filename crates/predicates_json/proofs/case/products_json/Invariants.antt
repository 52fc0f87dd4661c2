use Rattle.std.proofs.Common.{◌≡◌, take, map}
use Rattle.serde_json.specs.View.{view}
use Rattle.predicates_json.specs.CaseData.{product_data}
use Rattle.predicates_json.proofs.case.products_json.Given as goal

abbrev pub invariant-loop-product : goal.invariant-loop-product
invariant-loop-product l = map view l.values.items ≡ map product_data (take l.product-index l.products)
