-- That the loop by which a check is dropped ends.
use Rattle.std.proofs.Common.{◌≡◌, ℕ, zero, suc, ◌+◌, ◌-◌, ◌<◌, ◌≤◌, List, [], ◌∷◌, ◌++◌, Option, Some, None, IfSome, Vec, Box, Global, arith, refl, ap, subst}
use Rattle.predicates_core.specs.declared.custom.join.Operator.{Operator}
use Rattle.predicates_tree.specs.declared.check.Check.{Check}
use Rattle.predicates_tree.specs.declared.check.Check.TheVariants.{Leaf, Not, Named, Pair, Row, Members}
use Rattle.predicates_tree.specs.declared.quota.Quota.{Quota}
use Rattle.predicates_tree.specs.Trees.{computed}
use Rattle.predicates_tree.proofs.Unrolled.{leaf_tree, not_tree, named_tree, pair_tree, row_tree, members_tree}
use Rattle.predicates_tree.specs.Sizes.{tree_size, size_of, sizes_of, size_left, steps, left_of, left_over}

grow : (n d m : ℕ) → m ≡ d + n → steps n ≤ steps m
grow n zero m h =
    let e : n ≡ m = omega (arith, h) in
    let same : steps n ≤ steps n = omega arith in
    subst (λ k. steps n ≤ steps k) e same
grow n (suc d) zero h = absurd (omega (arith, h))
grow n (suc d) (suc m) h =
    let ih = grow n d m (omega (arith, h)) in
    let is : steps (suc m) ≡ steps m + suc (suc m) = refl in
    omega (arith, ih, is)

more : (n m : ℕ) → n ≤ m → steps n ≤ steps m
more n m h = grow n (m - n) m (omega (arith, h))

-- fewer checks are left
fewer_left : (n m c d : ℕ) → n < m → c ≤ n → steps n + c < steps m + d
fewer_left n m c d h k =
    let next : steps (suc n) ≤ steps m = more (suc n) m (omega (arith, h)) in
    let is : steps (suc n) ≡ steps n + suc (suc n) = refl in
    omega (arith, next, is, k)

-- not more are left, and the first is smaller
smaller_first : (n m c d : ℕ) → n ≤ m → c < d → steps n + c < steps m + d
smaller_first n m c d h k = let next = more n m h in omega (arith, next, k)

pub leaf_size : {L : Type 0} (V S : Type 0) (l : L) → size_of {L = L} {V = V} {S = S} (Leaf l) ≡ 1
leaf_size {L} V S l = ap tree_size (leaf_tree {V = V} {S = S} (λ _. computed) l)

module _ {L V S : Type 0} where
  pub not_size : (s : S) (b : Box (Check L V S) Global) → size_of (Not s b) ≡ suc (size_of b.value)
  not_size s b = ap tree_size (not_tree (λ _. computed) s b)

  pub named_size : (name : List ℕ) (b : Box (Check L V S) Global) → size_of (Named name b) ≡ suc (size_of b.value)
  named_size name b = ap tree_size (named_tree (λ _. computed) name b)

  pub pair_size : (s : S) (op : Operator) (a b : Box (Check L V S) Global) → size_of (Pair s op a b) ≡ suc (size_of a.value + size_of b.value)
  pair_size s op a b = ap tree_size (pair_tree (λ _. computed) s op a b)

  pub row_size : (s : S) (q : Quota) (cs : Vec (Check L V S) Global) → size_of (Row s q cs) ≡ suc (sizes_of cs.items)
  row_size s q cs = ap tree_size (row_tree (λ _. computed) s q cs)

  pub members_size : (s : S) (q : Quota) (view : V) (b : Box (Check L V S) Global) → size_of (Members s q view b) ≡ suc (size_of b.value)
  members_size s q view b = ap tree_size (members_tree (λ _. computed) s q view b)

  pub fewer : (a : Check L V S) (n : ℕ) (p q : Option (Check L V S)) → size_of a + size_left p < n + size_left q → left_over a p < left_of n q
  fewer a n p q h = fewer_left (size_of a + size_left p) (n + size_left q) (size_of a) n h (omega arith)

  pub smaller : (a : Check L V S) (n : ℕ) (p q : Option (Check L V S)) → size_of a + size_left p ≤ n + size_left q → size_of a < n → left_over a p < left_of n q
  smaller a n p q h k = smaller_first (size_of a + size_left p) (n + size_left q) (size_of a) n h k

  pub sizes_first : (c : Check L V S) (cs : List (Check L V S)) → sizes_of (c ∷ cs) ≡ sizes_of cs + size_of c
  sizes_first c cs = omega arith

  pub sizes_last : (cs : List (Check L V S)) (c : Check L V S) → sizes_of (cs ++ c ∷ []) ≡ sizes_of cs + size_of c
  sizes_last [] c = omega arith
  sizes_last (d ∷ cs) c = let ih = sizes_last cs c in omega (arith, ih)

  -- nothing is left of the check itself
  pub then_waiting : (n : ℕ) (q : Option (Check L V S)) (r : Option (Check L V S × Option (Check L V S))) → 0 < n → IfSome r (λ next. (size_left next.1 ≡ 0) × (size_of next.0 ≡ size_left q)) → IfSome r (λ next. left_over next.0 next.1 < left_of n q)
  then_waiting n q None some h = tt
  then_waiting n q (Some next) some h = fewer next.0 n next.1 q (let e = h.0 in let f = h.1 in omega (arith, e, f, some))
