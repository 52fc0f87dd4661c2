-- The trees that a list of entries holds, in preorder.
use Rattle.std.specs.Prelude.{ℕ, zero, suc, ◌-◌, ◌≤◌, List, [], ◌∷◌, length, take, drop}
use Rattle.std.specs.Prelude.{string_bytes, option_map, ⊤}
use Rattle.predicates_reflection.specs.Tree.{Forest, empty, branch}
use Rattle.predicates_reflection.specs.Describe.{CaseNode}
use Rattle.predicates_reflection.specs.declared.reflection.case.Entry.{Entry}
use Rattle.predicates_reflection.specs.declared.reflection.case.Node.{Node}

abbrev pub node_of : Node → CaseNode
node_of n = record
    { text = option_map string_bytes n.text; result = n.result; products = n.products.items }

-- the trees of at most this many entries: under the first entry stand the entries of its subtree
-- without itself, and the rest follow it
abbrev pub trees_of : ℕ → List Entry → Forest CaseNode
trees_of zero es = empty
trees_of (suc k) [] = empty
trees_of (suc k) (e ∷ es) = branch e.name (node_of e.node) (trees_of k (take (e.size - 1) es))
    (trees_of k (drop (e.size - 1) es))

abbrev pub trees : List Entry → Forest CaseNode
trees es = trees_of (length es) es

-- the sizes are those of trees in preorder: each counts its own entry, the sizes of the children
-- fill what is left of it, and the list ends where a tree ends
abbrev pub AreSized : ℕ → List Entry → Type 0
AreSized zero es = ⊤
AreSized (suc k) [] = ⊤
AreSized (suc k) (e ∷ es) = (1 ≤ e.size) × (e.size - 1 ≤ length es)
    × AreSized k (take (e.size - 1) es) × AreSized k (drop (e.size - 1) es)

abbrev pub IsPreorder : List Entry → Type 0
IsPreorder es = AreSized (length es) es
