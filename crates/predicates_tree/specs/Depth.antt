-- How deep checks are nested.
use Rattle.std.specs.Prelude.{ℕ, suc, max, List, map}
use Rattle.predicates_tree.specs.declared.check.Check.{Check}
use Rattle.predicates_tree.specs.Trees.{Tree, Trees, Leaf, Not, Named, Pair, Row, Members}
use Rattle.predicates_tree.specs.Trees.{nothing, also, computed_tree, trees_of}

module _ {L V : Type 0} where
  abbrev mutual
    -- how many checks its longest chain has, each a part of the one before
    pub tree_depth : Tree L V → ℕ
    tree_depth (Leaf l) = 1
    tree_depth (Not w t) = suc (tree_depth t)
    tree_depth (Named name t) = suc (tree_depth t)
    tree_depth (Pair w op a b) = suc (max (tree_depth a) (tree_depth b))
    tree_depth (Row w q ts) = suc (greatest_depth ts)
    tree_depth (Members w q view t) = suc (tree_depth t)

    -- that of the deepest, and 0 where there is none
    pub greatest_depth : Trees L V → ℕ
    greatest_depth nothing = 0
    greatest_depth (also t ts) = max (tree_depth t) (greatest_depth ts)

module _ {L V S : Type 0} where
  abbrev pub depth_of : Check L V S → ℕ
  depth_of c = tree_depth (computed_tree c)

  abbrev pub depth_of_parts : List (Check L V S) → ℕ
  depth_of_parts cs = greatest_depth (trees_of (map computed_tree cs))
