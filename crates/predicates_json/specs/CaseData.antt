-- The data that a case is written as.
use Rattle.std.specs.Prelude.{ℕ, List, Option, Some, None, codes, map}
use Rattle.serde_json.specs.Data.{Data, null, boolean, string, array, object, Items, no_items, item}
use Rattle.serde_json.specs.Data.{member, no_members}
use Rattle.serde_json.specs.View.{items_of}
use Rattle.predicates_core.specs.Tree.{Tree, Forest, empty, branch}
use Rattle.predicates_core.specs.Describe.{CaseNode, NamedBytes}

abbrev pub product_data : NamedBytes → Data
product_data p = object
    (member (codes "name") (string p.0) (member (codes "value") (string p.1) no_members))

abbrev pub products_data : List NamedBytes → Items
products_data ps = items_of (map product_data ps)

abbrev pub text_data : Option (List ℕ) → Data
text_data (Some text) = string text
text_data None = null

-- a name, and a case that is already written
abbrev pub child_data : List ℕ → Data → Data
child_data name case = object
    (member (codes "case") case (member (codes "name") (string name) no_members))

-- a node over children that are already written
abbrev pub node_data : CaseNode → Items → Data
node_data n children = object
    (member (codes "children") (array children)
    (member (codes "products") (array (products_data n.products))
    (member (codes "result") (boolean n.result)
    (member (codes "text") (text_data n.text) no_members))))

abbrev pub forest_data : Forest CaseNode → Items
forest_data empty = no_items
forest_data (branch name node below next) = item
    (child_data name (node_data node (forest_data below))) (forest_data next)

abbrev pub case_data : Tree CaseNode → Data
case_data t = node_data t.root (forest_data t.children)
