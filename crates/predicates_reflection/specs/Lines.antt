-- The lines of a case.
use Rattle.std.specs.Prelude.{ℕ, ◌+◌, ◌*◌, List, [], ◌++◌, unwrap_or, if◌then◌else◌, codes}
use Rattle.std.specs.Prelude.{replicate, flat_map}
use Rattle.predicates_reflection.specs.Tree.{Forest, Tree, empty, branch}
use Rattle.predicates_reflection.specs.Describe.{CaseNode, NamedBytes, NamedCase}

-- two spaces for each depth
abbrev pub indented : ℕ → List ℕ
indented depth = replicate (2 * depth) 32

-- the end of a node's line: the text, or `predicate` where there is none, and the result
abbrev pub verdict : CaseNode → List ℕ
verdict n = unwrap_or n.text (codes "predicate") ++ codes " = " ++
    (if n.result then codes "true" else codes "false") ++ codes "\n"

-- the line of a product below this indent
abbrev pub product_line : List ℕ → NamedBytes → List ℕ
product_line indent p = indent ++ codes "- " ++ p.0 ++ codes ": " ++ p.1 ++ codes "\n"

-- the lines of a node that stands at a depth, with what stands before its text: its own line, and
-- the lines of its products, two spaces deeper
abbrev pub node_lines : ℕ → List ℕ → CaseNode → List ℕ
node_lines depth before n = indented depth ++ before ++ verdict n ++ flat_map
    (product_line (indented (depth + 1))) n.products

-- the lines of named trees that stand at a depth: of each tree its root, with its name, and then
-- the trees under it
abbrev pub forest_lines : ℕ → Forest CaseNode → List ℕ
forest_lines depth empty = []
forest_lines depth (branch name node below next) = node_lines depth (name ++ codes ": ") node ++
    forest_lines (depth + 1) below ++ forest_lines depth next

-- what follows the name of a tree that stands at a depth: the end of its root's line, the lines of
-- the root's products, and those of the trees under it
abbrev pub tree_lines : ℕ → Tree CaseNode → List ℕ
tree_lines depth t = (verdict t.root ++ flat_map (product_line (indented (depth + 1)))
    t.root.products) ++ forest_lines (depth + 1) t.children

-- the lines of a child that stands at a depth
abbrev pub child_lines : ℕ → NamedCase → List ℕ
child_lines depth c = (indented depth ++ c.0 ++ codes ": ") ++ tree_lines depth c.1

-- the lines of a case
abbrev pub lines : Tree CaseNode → List ℕ
lines t = node_lines 0 [] t.root ++ forest_lines 1 t.children
