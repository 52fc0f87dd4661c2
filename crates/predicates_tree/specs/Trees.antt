-- What a check is, apart from where it lies in memory.
use Rattle.std.specs.Prelude.{ℕ, List, [], ◌∷◌, Option, None, Some, box_value, codes}
use Rattle.std.specs.List.{AllByRecursion}
use Rattle.predicates_core.specs.declared.custom.join.Operator.{Operator}
use Rattle.predicates_tree.specs.declared.check.Check.{Check, fold-Check}
use Rattle.predicates_tree.specs.declared.check.Check.TheOpen.{Check-F}
use Rattle.predicates_tree.specs.declared.quota.Quota.{Quota}

-- The words of a node: the text that it prints, where that is kept and not computed from its parts,
-- and the name under which the parts of a row stand.
pub record Words : Type 0 where
  pub text : Option (List ℕ)
  pub part : List ℕ

-- the text is computed, and a part is a rule
abbrev pub computed : Words
computed = record { text = None; part = codes "rule" }

mutual
  pub data Tree (L V : Type 0) : Type 0 where
    Leaf : L → Tree L V
    Not : Words → Tree L V → Tree L V
    Named : List ℕ → Tree L V → Tree L V
    Pair : Words → Operator → Tree L V → Tree L V → Tree L V
    Row : Words → Quota → Trees L V → Tree L V
    Members : Words → Quota → V → Tree L V → Tree L V

  pub data Trees (L V : Type 0) : Type 0 where
    nothing : Trees L V
    also : Tree L V → Trees L V → Trees L V

module _ {L V : Type 0} where
  abbrev pub trees_of : List (Tree L V) → Trees L V
  trees_of [] = nothing
  trees_of (t ∷ ts) = also t (trees_of ts)

  -- the words of the node on top; a leaf and a name have none of their own
  abbrev pub node_words : Tree L V → Words
  node_words (Leaf l) = computed
  node_words (Not w t) = w
  node_words (Named name t) = computed
  node_words (Pair w op a b) = w
  node_words (Row w q ts) = w
  node_words (Members w q view t) = w

  module _ {S : Type 0} (words : S → Words) where
    -- one level, with each part already seen as its tree
    abbrev pub tree_step : Check-F L V S (Tree L V) → Tree L V
    tree_step (Check-F.Leaf l) = Leaf l
    tree_step (Check-F.Not s t) = Not (words s) (box_value t)
    tree_step (Check-F.Named name t) = Named name (box_value t)
    tree_step (Check-F.Pair s op a b) = Pair (words s) op (box_value a) (box_value b)
    tree_step (Check-F.Row s q ts) = Row (words s) q (trees_of ts.items)
    tree_step (Check-F.Members s q view t) = Members (words s) q view (box_value t)

    abbrev pub tree_of : Check L V S → Tree L V
    tree_of = fold-Check L V S (Tree L V) tree_step

    -- the words of the check's node on top
    abbrev pub words_of : Check L V S → Words
    words_of c = node_words (tree_of c)

  -- the tree of a check whose texts are all computed
  abbrev pub computed_tree : {S : Type 0} → Check L V S → Tree L V
  computed_tree c = tree_of (λ _. computed) c

  -- a fact of each leaf
  abbrev mutual
    pub AllLeaves : (L → Type 0) → Tree L V → Type 0
    AllLeaves fact (Leaf l) = fact l
    AllLeaves fact (Not w t) = AllLeaves fact t
    AllLeaves fact (Named name t) = AllLeaves fact t
    AllLeaves fact (Pair w op a b) = AllLeaves fact a × AllLeaves fact b
    AllLeaves fact (Row w q ts) = AllOfTrees fact ts
    AllLeaves fact (Members w q view t) = AllLeaves fact t

    pub AllOfTrees : (L → Type 0) → Trees L V → Type 0
    AllOfTrees fact nothing = Unit {0}
    AllOfTrees fact (also t ts) = AllLeaves fact t × AllOfTrees fact ts

  -- a fact of each leaf of the check
  abbrev pub AllOf : {S : Type 0} → (L → Type 0) → (S → Words) → Check L V S → Type 0
  AllOf fact words c = AllLeaves fact (tree_of words c)

-- a fact of each leaf on each item that it is asked about, and of each view on its item
module _ {L V Item : Type 0} (fact : L → Item → Type 0) (lends : V → Item → Type 0)
    (gives : V → Item → Option (List Item) → Type 0) where
  abbrev mutual
    pub AllAsked : Item → Tree L V → Type 0
    AllAsked v (Leaf l) = fact l v
    AllAsked v (Not w t) = AllAsked v t
    AllAsked v (Named name t) = AllAsked v t
    AllAsked v (Pair w op a b) = AllAsked v a × AllAsked v b
    AllAsked v (Row w q ts) = AllAskedOfTrees v ts
    AllAsked v (Members w q view t) = lends view v × ((us : List Item)
        → gives view v (Some us) → AllByRecursion (λ member. AllAsked member t) us)

    pub AllAskedOfTrees : Item → Trees L V → Type 0
    AllAskedOfTrees v nothing = Unit {0}
    AllAskedOfTrees v (also t ts) = AllAsked v t × AllAskedOfTrees v ts

  -- the same of the check
  abbrev pub AsksAll : {S : Type 0} → (S → Words) → Item → Check L V S → Type 0
  AsksAll words v c = AllAsked v (tree_of words c)
