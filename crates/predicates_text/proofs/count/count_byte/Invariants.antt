use Rattle.std.proofs.Common.{◌≡◌, ◌≤◌, length, filter, nat_eq, take}
use Rattle.predicates_text.proofs.count.count_byte.Given as goal

-- what was counted so far
abbrev pub invariant-loop-other : goal.invariant-loop-other
invariant-loop-other l = (l.count ≡ length (filter (nat_eq l.byte) (take l.other-index l.other-items))) × (l.count ≤ l.other-index)
