use Rattle.std.proofs.Common.{◌≤◌, take}
use Rattle.predicates_tree.specs.Depth.{depth_of_parts}
use Rattle.predicates_tree.proofs.check.Check.+depth.Given as goal

abbrev pub invariant-one_is_deeper-loop-part : goal.invariant-one_is_deeper-loop-part
invariant-one_is_deeper-loop-part g l = depth_of_parts (take l.part-index l.parts) ≤ l.limit
