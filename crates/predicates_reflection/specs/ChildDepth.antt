-- Each child of a description has fewer nodes under it than the description.
use Rattle.std.specs.Prelude.{ℕ, ◌+◌, ◌≤◌, max, List, [], ◌∷◌}
use Rattle.std.proofs.Common.{arith}
use denote.Param.Weighed.{most}
use Rattle.predicates_reflection.specs.Tree.{forest, node_count}
use Rattle.predicates_reflection.specs.Describe.{NamedChild}

max-le : (b n m : ℕ) → b ≤ m → max (n + 1) b ≤ n + m + 1
max-le b n m h = omega arith

most_le-node_count : (cs : List NamedChild)
    → most (λ c. node_count c.1.children + 1) cs ≤ node_count (forest cs)
most_le-node_count [] = omega arith
most_le-node_count (c ∷ cs) = max-le _ (node_count c.1.children) _ (most_le-node_count cs)

max_none-le : (n m : ℕ) → n ≤ m → max n 0 ≤ m
max_none-le n m h = omega arith

pub depth_le-node_count : (cs : List NamedChild)
    → max (most (λ c. node_count c.1.children + 1) cs) 0 ≤ node_count (forest cs)
depth_le-node_count cs = max_none-le _ _ (most_le-node_count cs)
