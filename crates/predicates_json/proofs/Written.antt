-- A forest is written child by child.
use Rattle.std.proofs.Common.{◌≡◌, map, refl, ap}
use Rattle.serde_json.specs.Data.{Data, item}
use Rattle.serde_json.specs.View.{items_of}
use Rattle.predicates_core.specs.Tree.{Forest, empty, branch, named_trees}
use Rattle.predicates_core.specs.Describe.{CaseNode, NamedCase}
use Rattle.predicates_json.specs.CaseData.{child_data, case_data, forest_data}

abbrev pub named_data : NamedCase → Data
named_data c = child_data c.0 (case_data c.1)

pub forest_data-named : (f : Forest CaseNode) → forest_data f ≡ items_of (map named_data (named_trees f))
forest_data-named empty = refl
forest_data-named (branch name node below next) = ap (item (named_data (name, record { root = node; children = below }))) (forest_data-named next)
