-- How deep a check is, by its form, and the deepest of several.
use Rattle.std.proofs.Common.{◌≡◌, ℕ, zero, suc, ◌+◌, ◌-◌, ◌<◌, ◌≤◌, ◌↔◌, ⊎_elim, max, Bool, true, false, IsTrue, List, [], ◌∷◌, ◌++◌, Vec, Box, Global, length, take, get_or, arith, ap, ◌∙◌, sym, subst}
use Rattle.std.proofs.Math.Nat.{le-max_left, le-max_right}
use Rattle.std.proofs.lemmas.Bool.{cases_lt}
use Rattle.std.proofs.lemmas.List.{take_more}
use Rattle.predicates_core.specs.declared.custom.join.Operator.{Operator}
use Rattle.predicates_tree.specs.declared.check.Check.{Check}
use Rattle.predicates_tree.specs.declared.check.Check.TheVariants.{Pair, Row}
use Rattle.predicates_tree.specs.declared.quota.Quota.{Quota}
use Rattle.predicates_tree.specs.Trees.{computed}
use Rattle.predicates_tree.specs.Depth.{tree_depth, depth_of, depth_of_parts}
use Rattle.predicates_tree.proofs.Unrolled.{pair_tree, row_tree}

-- no deeper than both are no deeper than
max_within : (n a b : ℕ) → a ≤ n → b ≤ n → max a b ≤ n
max_within n a b h k = grind arith

no_deeper : (b : Bool) (n d : ℕ) → b ≡ false → (IsTrue b ↔ (n < d)) → d ≤ n
no_deeper b n d none h = ⊎_elim
    (λ deep. let yes : b ≡ true = h.1 deep in absurd (cc))
    (λ within. within)
    (cases_lt n d)

-- one level more, and one that is allowed more
pub deeper_by_one : (n m d : ℕ) (r : Bool) → 0 < n → d ≡ suc m → (IsTrue r ↔ (n - 1 < m)) → IsTrue r ↔ (n < d)
deeper_by_one n m d r some is h = (λ yes. let below = h.0 yes in omega (arith, some, is, below), λ deep. h.1 (omega (arith, some, is, deep)))

-- the right one of two, where the left one is not deep
pub right_is_deeper : (n a b d : ℕ) (l r : Bool) → 0 < n → d ≡ suc (max a b) → l ≡ false → (IsTrue l ↔ (n - 1 < a)) → (IsTrue r ↔ (n - 1 < b)) → IsTrue r ↔ (n < d)
right_is_deeper n a b d l r some is none of_left of_right = deeper_by_one n (max a b) d r some is (
  (λ yes. let below = of_right.0 yes in let most = le-max_right a b in omega (arith, below, most)),
  (λ deep. ⊎_elim (λ h. of_right.1 h)
      (λ h. let most = max_within (n - 1) a b (no_deeper l (n - 1) a none of_left) h in absurd (omega (arith, deep, most)))
      (cases_lt (n - 1) b)),
)

module _ {L V S : Type 0} where
  pub pair_depth : (s : S) (op : Operator) (a b : Box (Check L V S) Global) → depth_of (Pair s op a b) ≡ suc (max (depth_of a.value) (depth_of b.value))
  pair_depth s op a b = ap tree_depth (pair_tree (λ _. computed) s op a b)

  pub row_depth : (s : S) (q : Quota) (cs : Vec (Check L V S) Global) → depth_of (Row s q cs) ≡ suc (depth_of_parts cs.items)
  row_depth s q cs = ap tree_depth (row_tree (λ _. computed) s q cs)

  none_deeper_more : (n : ℕ) (cs : List (Check L V S)) (c : Check L V S) → depth_of_parts cs ≤ n → depth_of c ≤ n → depth_of_parts (cs ++ c ∷ []) ≤ n
  none_deeper_more n [] c h k = grind arith
  none_deeper_more n (d ∷ cs) c h k =
      let front : depth_of d ≤ n = omega (arith, h, le-max_left (depth_of d) (depth_of_parts cs)) in
      let back : depth_of_parts cs ≤ n = omega (arith, h, le-max_right (depth_of d) (depth_of_parts cs)) in
      let ih = none_deeper_more n cs c back k in
      grind arith

  -- of one more, that is no deeper either
  pub none_deeper : (n : ℕ) (cs : List (Check L V S)) (k : ℕ) (c : Check L V S) (b : Bool) → k < length cs → c ≡ get_or cs k c → depth_of_parts (take k cs) ≤ n → b ≡ false → (IsTrue b ↔ (n < depth_of c)) → depth_of_parts (take (k + 1) cs) ≤ n
  none_deeper n cs k c b within is h none deep = subst (λ us. depth_of_parts us ≤ n) (ap (λ z. take k cs ++ z ∷ []) is ∙ sym (take_more cs k c within)) (none_deeper_more n (take k cs) c h (no_deeper b n (depth_of c) none deep))

  -- none is deeper than the deepest
  pub depth_at : (cs : List (Check L V S)) (k : ℕ) (c : Check L V S) → k < length cs → c ≡ get_or cs k c → depth_of c ≤ depth_of_parts cs
  depth_at [] k c within is = absurd (omega (arith, within))
  depth_at (d ∷ cs) zero c within is = subst (λ z. depth_of z ≤ depth_of_parts (d ∷ cs)) (sym is) (le-max_left (depth_of d) (depth_of_parts cs))
  depth_at (d ∷ cs) (suc k) c within is =
      let ih = depth_at cs k c (omega (arith, within)) is in
      let least = le-max_right (depth_of d) (depth_of_parts cs) in
      omega (arith, ih, least)
