-- What a check tells of its parts, from what its leaves tell.
use Rattle.std.specs.Prelude.{ℕ, List, [], codes}
use Rattle.predicates_core.specs.Label.{Entry, Product}
use Rattle.predicates_core.specs.Parts.{Part, part, two_parts}
use Rattle.predicates_core.specs.Tree.{Forest, empty, branch}
use Rattle.predicates_tree.specs.declared.check.Check.{Check}
use Rattle.predicates_tree.specs.Trees.{Tree, Trees, Leaf, Not, Named, Pair, Row, Members}
use Rattle.predicates_tree.specs.Trees.{Words, nothing, also, tree_of}
use Rattle.predicates_tree.specs.Formulas.{tree_text}

module _ {L V : Type 0} (parameters : L → List Product) where
  -- only a leaf has parameters
  abbrev pub tree_parameters : Tree L V → List Product
  tree_parameters (Leaf l) = parameters l
  tree_parameters (Not w t) = []
  tree_parameters (Named name t) = []
  tree_parameters (Pair w op a b) = []
  tree_parameters (Row w q ts) = []
  tree_parameters (Members w q view t) = []

  abbrev pub check_parameters : {S : Type 0} → (S → Words) → Check L V S → List Product
  check_parameters words c = tree_parameters (tree_of words c)

module _ {L V : Type 0} (text : L → Entry) (view_text : V → Entry) (parameters : L → List Product)
    (below : L → Forest Part) where
  abbrev mutual
    -- a leaf has its own parts
    pub tree_parts : Tree L V → Forest Part
    tree_parts (Leaf l) = below l
    tree_parts (Not w t) = part (codes "predicate") (tree_text text view_text t)
        (tree_parameters parameters t) (tree_parts t)
    tree_parts (Named name t) = part name (tree_text text view_text t)
        (tree_parameters parameters t) (tree_parts t)
    tree_parts (Pair w op a b) = two_parts
        (codes "left") (tree_text text view_text a) (tree_parameters parameters a) (tree_parts a)
        (codes "right") (tree_text text view_text b) (tree_parameters parameters b) (tree_parts b)
    tree_parts (Row w q ts) = row_parts w.part ts
    tree_parts (Members w q view t) = part (codes "item") (tree_text text view_text t)
        (tree_parameters parameters t) (tree_parts t)

    -- those of a row, under the name
    pub row_parts : List ℕ → Trees L V → Forest Part
    row_parts name nothing = empty
    row_parts name (also t ts) = branch name
        (record { text = tree_text text view_text t; parameters = tree_parameters parameters t })
        (tree_parts t) (row_parts name ts)

  abbrev pub check_parts : {S : Type 0} → (S → Words) → Check L V S → Forest Part
  check_parts words c = tree_parts (tree_of words c)
