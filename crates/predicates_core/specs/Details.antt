-- Leaves that show the item, and then products that a test states.
use Rattle.std.specs.Prelude.{List, ◌∷◌, ◌++◌, codes}
use Rattle.predicates_core.specs.Label.{Entry, Product, Label}
use Rattle.predicates_core.specs.Tree.{Tree}
use Rattle.predicates_core.specs.Describe.{CaseNode, NamedBytes}

-- a label that shows the item as `var`, and then the products
abbrev pub showing_details : Entry → Entry → List Product → Label
showing_details text item products = record
    { text = text; products = record { name = codes "var"; value = item } ∷ products }

-- the tree with more products, the last of its root
abbrev pub with_products : Tree CaseNode → List NamedBytes → Tree CaseNode
with_products t ps = record t {
  root = record
      { text = t.root.text; result = t.root.result; products = t.root.products ++ ps };
}
