-- The tree of a check with one of its forms on top.
use Rattle.std.proofs.Common.{◌≡◌, ℕ, List, Vec, Box, Global, map, sym, ap, ◌∙◌}
use Rattle.predicates_core.specs.declared.custom.join.Operator.{Operator}
use Rattle.predicates_tree.specs.declared.check.Check.{Check}
use Rattle.predicates_tree.specs.declared.check.Check.TheFolds.{fold-roll-Check}
use Rattle.predicates_tree.specs.declared.check.Check.TheOpen.{Check-F}
use Rattle.predicates_tree.specs.declared.check.Check.TheVariants as checks
use Rattle.predicates_tree.specs.declared.check.Check.TheVariants.{rolls-Leaf, rolls-Not, rolls-Named, rolls-Pair, rolls-Row, rolls-Members}
use Rattle.predicates_tree.specs.declared.quota.Quota.{Quota}
use Rattle.predicates_tree.specs.Trees.{Words, node_words, words_of, Tree, tree_step, tree_of, trees_of, Leaf, Not, Named, Pair, Row, Members}

module _ {L V S : Type 0} (words : S → Words) where
  pub leaf_tree : (l : L) → tree_of {L = L} {V = V} words (checks.Leaf l) ≡ Leaf l
  leaf_tree l = ap (tree_of {L = L} {V = V} words) (sym (rolls-Leaf l)) ∙ fold-roll-Check L V S (Tree L V) (tree_step words) (Check-F.Leaf l)

  pub not_tree : (s : S) (b : Box (Check L V S) Global) → tree_of words (checks.Not s b) ≡ Not (words s) (tree_of words b.value)
  not_tree s b = ap (tree_of words) (sym (rolls-Not s b)) ∙ fold-roll-Check L V S (Tree L V) (tree_step words) (Check-F.Not s b)

  pub named_tree : (name : List ℕ) (b : Box (Check L V S) Global) → tree_of words (checks.Named name b) ≡ Named name (tree_of words b.value)
  named_tree name b = ap (tree_of words) (sym (rolls-Named name b)) ∙ fold-roll-Check L V S (Tree L V) (tree_step words) (Check-F.Named name b)

  pub pair_tree : (s : S) (op : Operator) (a b : Box (Check L V S) Global) → tree_of words (checks.Pair s op a b) ≡ Pair (words s) op (tree_of words a.value) (tree_of words b.value)
  pair_tree s op a b = ap (tree_of words) (sym (rolls-Pair s op a b)) ∙ fold-roll-Check L V S (Tree L V) (tree_step words) (Check-F.Pair s op a b)

  pub row_tree : (s : S) (q : Quota) (cs : Vec (Check L V S) Global) → tree_of words (checks.Row s q cs) ≡ Row (words s) q (trees_of (map (tree_of words) cs.items))
  row_tree s q cs = ap (tree_of words) (sym (rolls-Row s q cs)) ∙ fold-roll-Check L V S (Tree L V) (tree_step words) (Check-F.Row s q cs)

  pub members_tree : (s : S) (q : Quota) (view : V) (b : Box (Check L V S) Global) → tree_of words (checks.Members s q view b) ≡ Members (words s) q view (tree_of words b.value)
  members_tree s q view b = ap (tree_of words) (sym (rolls-Members s q view b)) ∙ fold-roll-Check L V S (Tree L V) (tree_step words) (Check-F.Members s q view b)

  -- the same in the words of the check itself
  pub row_whole : {c : Check L V S} {s : S} {q : Quota} (parts : Vec (Check L V S) Global) {cs : List (Check L V S)} → c ≡ checks.Row s q parts → cs ≡ parts.items → tree_of words c ≡ Row (words_of words c) q (trees_of (map (tree_of words) cs))
  row_whole {c} {s} {q} parts {cs} is same =
      let e = ap (tree_of words) is ∙ row_tree s q parts in
      e ∙ (λ i. Row (node_words (sym e i)) q (trees_of (map (tree_of words) (sym same i))))
