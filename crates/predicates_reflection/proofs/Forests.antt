-- Lemmas on forests.
use Rattle.std.proofs.Common.{◌≡◌, ◌+◌, ◌<◌, arith, ℕ, List, [], ◌∷◌, ◌++◌, refl, ap}
use Rattle.predicates_reflection.specs.Tree.{Forest, Tree, empty, branch, forest, named_trees, node_count}

module _ {N : Type 0} where
  pub named_trees-forest : (ts : List (List ℕ × Tree N)) → named_trees (forest ts) ≡ ts
  named_trees-forest [] = refl
  named_trees-forest (t ∷ ts) = ap (λ us. t ∷ us) (named_trees-forest ts)

  pub forest-named_trees : (f : Forest N) → forest (named_trees f) ≡ f
  forest-named_trees empty = refl
  forest-named_trees (branch name node below next) = ap (branch name node below) (forest-named_trees next)

  -- how many nodes stand in a list of named trees
  abbrev total : List (List ℕ × Tree N) → ℕ
  total [] = 0
  total (t ∷ ts) = node_count t.1.children + total ts + 1

  total-named_trees : (f : Forest N) → node_count f ≡ total (named_trees f)
  total-named_trees empty = refl
  total-named_trees (branch name node below next) = ap (λ n. node_count below + n + 1) (total-named_trees next)

  total-member : (ys : List (List ℕ × Tree N)) (x : List ℕ × Tree N) (zs : List (List ℕ × Tree N)) → node_count x.1.children < total (ys ++ x ∷ zs)
  total-member [] x zs = omega arith
  total-member (y ∷ ys) x zs = omega (arith, total-member ys x zs)

  -- a child has fewer nodes under it than its parent
  pub node_count-child : (f : Forest N) (ys : List (List ℕ × Tree N)) (x : List ℕ × Tree N) (zs : List (List ℕ × Tree N))
      → named_trees f ≡ ys ++ x ∷ zs → node_count x.1.children < node_count f
  node_count-child f ys x zs e = rw (total-named_trees f, e) (total-member ys x zs)
