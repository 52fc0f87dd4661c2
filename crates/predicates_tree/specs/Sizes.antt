-- How large a check is, and the measure of the loop that drops one.
use Rattle.std.specs.Prelude.{ℕ, zero, suc, ◌+◌, List, Option, Some, None, map}
use Rattle.predicates_tree.specs.declared.check.Check.{Check}
use Rattle.predicates_tree.specs.Trees.{Tree, Trees, Leaf, Not, Named, Pair, Row, Members}
use Rattle.predicates_tree.specs.Trees.{nothing, also, computed_tree, trees_of}

module _ {L V : Type 0} where
  abbrev mutual
    -- how many checks it is made of, with itself
    pub tree_size : Tree L V → ℕ
    tree_size (Leaf l) = 1
    tree_size (Not w t) = suc (tree_size t)
    tree_size (Named name t) = suc (tree_size t)
    tree_size (Pair w op a b) = suc (tree_size a + tree_size b)
    tree_size (Row w q ts) = suc (tree_sizes ts)
    tree_size (Members w q view t) = suc (tree_size t)

    pub tree_sizes : Trees L V → ℕ
    tree_sizes nothing = 0
    tree_sizes (also t ts) = tree_size t + tree_sizes ts

module _ {L V S : Type 0} where
  abbrev pub size_of : Check L V S → ℕ
  size_of c = tree_size (computed_tree c)

  abbrev pub sizes_of : List (Check L V S) → ℕ
  sizes_of cs = tree_sizes (trees_of (map computed_tree cs))

  abbrev pub size_left : Option (Check L V S) → ℕ
  size_left None = 0
  size_left (Some c) = size_of c

-- so many as there are pairs of numbers that are not greater, in order
abbrev pub steps : ℕ → ℕ
steps zero = 0
steps (suc n) = steps n + suc (suc n)

-- what is left, first by how many checks that are, and then by the size of the first
abbrev pub left_of : {L V S : Type 0} → ℕ → Option (Check L V S) → ℕ
left_of size waiting = steps (size + size_left waiting) + size

abbrev pub left_over : {L V S : Type 0} → Check L V S → Option (Check L V S) → ℕ
left_over c waiting = left_of (size_of c) waiting
