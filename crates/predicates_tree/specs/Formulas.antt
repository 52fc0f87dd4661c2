-- What a check prints, and its formulas, from those of its leaves.
use Rattle.std.specs.Prelude.{◌≡◌, ℕ, suc, List, [], ◌∷◌, Option, Some, None, codes}
use Rattle.predicates_core.specs.Label.{Entry, Product, plain}
use Rattle.predicates_core.specs.Formula as formula
use Rattle.predicates_core.specs.Formula.{Formula, Formulas, one, more, pair}
use Rattle.predicates_core.specs.Combined.{infix_text, not_text, sign, IsPair, IsNot, IsNamed}
use Rattle.predicates_tree.specs.declared.check.Check.{Check}
use Rattle.predicates_tree.specs.Quotas.{IsOfNumber, IsOfQuota, quota_formula, row_text}
use Rattle.predicates_tree.specs.Quotas.{members_text}
use Rattle.predicates_tree.specs.Viewed.{IsViewed, viewed_formula}
use Rattle.predicates_tree.specs.Trees.{Tree, Trees, Leaf, Not, Named, Pair, Row, Members}
use Rattle.predicates_tree.specs.Trees.{nothing, also, Words, node_words, tree_of}

-- there are no trees
abbrev pub IsNothing : {L V : Type 0} → Trees L V → Type 0
IsNothing nothing = Unit {0}
IsNothing (also t ts) = ⊥

-- how many trees there are
abbrev pub number_of : {L V : Type 0} → Trees L V → ℕ
number_of nothing = 0
number_of (also t ts) = suc (number_of ts)

-- a text that is kept, or else the one that is computed
abbrev pub kept_or : Option (List ℕ) → Entry → Entry
kept_or None own = own
kept_or (Some text) own = Some text

-- what the node on top prints, from the text that is computed for it
abbrev pub worded : {L V : Type 0} → Tree L V → Entry → Entry
worded t own = kept_or (node_words t).text own

module _ {L V : Type 0} (text : L → Entry) (view_text : V → Entry) where
  abbrev mutual
    -- the text that is computed from those of the parts
    pub own_text : Tree L V → Entry
    own_text (Leaf l) = text l
    own_text (Not w t) = not_text (worded t (own_text t))
    own_text (Named name t) = Some name
    own_text (Pair w op a b) =
        infix_text (sign op) (worded a (own_text a)) (worded b (own_text b))
    own_text (Row w q ts) = row_text q (tree_texts ts)
    own_text (Members w q view t) = members_text q (view_text view) (worded t (own_text t))

    pub tree_texts : Trees L V → List Entry
    tree_texts nothing = []
    tree_texts (also t ts) = worded t (own_text t) ∷ tree_texts ts

  -- the printed text
  abbrev pub tree_text : Tree L V → Entry
  tree_text t = worded t (own_text t)

  abbrev pub check_text : {S : Type 0} → (S → Words) → Check L V S → Entry
  check_text words c = tree_text (tree_of words c)

  module _ {Item : Type 0} (has : L → Item → Formula → Type 0)
      (gives : V → Item → Option (List Item) → Type 0) (absence : V → Item → List Product) where
    abbrev mutual
      -- f is a formula of the tree on the item, by those of its leaves
      pub HasFormula : Item → Tree L V → Formula → Type 0
      HasFormula v (Leaf l) f = has l v f
      HasFormula v (Not w t) f = IsNot (tree_text (Not w t)) (HasFormula v t) f
      HasFormula v (Named name t) f = IsNamed name (HasFormula v t) f
      HasFormula v (Pair w op a b) f =
          IsPair op (tree_text (Pair w op a b)) (HasFormula v a) (HasFormula v b) f
      HasFormula v (Row w q ts) f =
          IsOfNumber q (number_of ts) (tree_text (Row w q ts)) (AreFormulas w.part v ts) f
      HasFormula v (Members w q view t) f = IsViewed
          (tree_text (Members w q view t)) (absence view v)
          (IsOfQuota q (tree_text (Members w q view t)) (codes "item")
          (λ member. HasFormula member t)) (gives view v) f

      -- each tree has one of the formulas, in order and under the name
      pub AreFormulas : List ℕ → Item → Trees L V → Formulas → Type 0
      AreFormulas name v nothing fs = ⊥
      AreFormulas name v (also t ts) (one n f) =
          (n ≡ name) × HasFormula v t f × IsNothing ts
      AreFormulas name v (also t ts) (more n f fs) =
          (n ≡ name) × HasFormula v t f × AreFormulas name v ts fs

    abbrev pub Has : {S : Type 0} → (S → Words) → Item → Check L V S → Formula → Type 0
    Has words v c = HasFormula v (tree_of words c)

    -- the same of a check, on one item after the other
    abbrev pub HasOn : {S : Type 0} → (S → Words) → Check L V S → Item → Formula → Type 0
    HasOn words c v = HasFormula v (tree_of words c)

-- the one formula, where each leaf has one
module _ {L V Item : Type 0} (text : L → Entry) (view_text : V → Entry)
    (formula_of : L → Item → Formula) (members : V → Item → Option (List Item))
    (absence : V → Item → List Product) where
  abbrev mutual
    pub tree_formula : Item → Tree L V → Formula
    tree_formula v (Leaf l) = formula_of l v
    tree_formula v (Not w t) =
        formula.Not (plain (tree_text text view_text (Not w t))) (tree_formula v t)
    tree_formula v (Named name t) = formula.Named (plain (Some name)) name (tree_formula v t)
    tree_formula v (Pair w op a b) = pair op (plain (tree_text text view_text (Pair w op a b)))
        (tree_formula v a) (tree_formula v b)
    tree_formula v (Row w q ts) = quota_formula q (tree_text text view_text (Row w q ts)) w.part
        (λ f. f) (tree_formulas v ts)
    tree_formula v (Members w q view t) = viewed_formula
        (tree_text text view_text (Members w q view t)) (absence view v)
        (quota_formula q (tree_text text view_text (Members w q view t)) (codes "item")
        (λ member. tree_formula member t)) (members view v)

    pub tree_formulas : Item → Trees L V → List Formula
    tree_formulas v nothing = []
    tree_formulas v (also t ts) = tree_formula v t ∷ tree_formulas v ts
