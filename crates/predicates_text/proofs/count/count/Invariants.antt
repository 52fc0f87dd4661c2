use Rattle.std.proofs.Common.{◌+◌, ◌≤◌, length}
use denote.Text.{Utf8}
use denote.Shadow.{shadow}
use Rattle.predicates_text.proofs.Counting.{IsCountedTo}
use Rattle.predicates_text.proofs.count.count.Given as goal

-- what is counted so far, and the count of what is left, are the count of the whole
abbrev pub invariant-loop-after : goal.invariant-loop-after
invariant-loop-after l =
    shadow (Utf8 l.rest) × (l.count + length l.rest ≤ length l.text) × IsCountedTo l.pattern l.text l.count l.rest

abbrev pub decreases-loop-after : goal.decreases-loop-after
decreases-loop-after l = length l.rest
