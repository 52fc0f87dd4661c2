use Rattle.std.proofs.Common.{◌+◌, ◌*◌, map, length}
use Rattle.vet_rules.specs.Signs.{signs}
use Rattle.vet_rules.specs.Trees.{tree_of}
use Rattle.vet_rules.specs.Grammar.{separator_word}
use Rattle.vet_rules.specs.Levels.{level_of}
use Rattle.vet_rules.specs.Reading.{parts_at, part_at, below}
use Rattle.vet_rules.proofs.Heights.{height, level_height, row_height}
use Rattle.vet_rules.proofs.Parts.{Reads}
use Rattle.vet_rules.proofs.parser.+reader.Given as goal

abbrev pub decreases-deeper : goal.decreases-deeper
decreases-deeper l = 24 * l.depth

abbrev pub decreases-at_grip : goal.decreases-at_grip
decreases-at_grip l = 24 * l.depth + level_height (level_of l.grip)

abbrev pub decreases-whole : goal.decreases-whole
decreases-whole l = 24 * l.depth + 21

abbrev pub decreases-implication : goal.decreases-implication
decreases-implication l = 24 * l.depth + 1

abbrev pub decreases-joined : goal.decreases-joined
decreases-joined l = 24 * l.depth + (height l.connective + 2)

abbrev pub decreases-others : goal.decreases-others
decreases-others l = 24 * l.depth + (row_height l.separator + 1)

abbrev pub decreases-part : goal.decreases-part
decreases-part l = 24 * l.depth + row_height l.separator

abbrev pub decreases-alone : goal.decreases-alone
decreases-alone l = 24 * l.depth + 7

abbrev pub decreases-begun : goal.decreases-begun
decreases-begun l = 24 * l.depth + 6

abbrev pub decreases-in_parentheses : goal.decreases-in_parentheses
decreases-in_parentheses l = 24 * l.depth + 1

abbrev pub decreases-over_items : goal.decreases-over_items
decreases-over_items l = 24 * l.depth + 2

abbrev pub decreases-listed : goal.decreases-listed
decreases-listed l = 24 * l.depth + 3

abbrev pub decreases-counted : goal.decreases-counted
decreases-counted l = 24 * l.depth + 4

abbrev pub decreases-threshold : goal.decreases-threshold
decreases-threshold l = 24 * l.depth + 5

abbrev pub invariant-others-loop-rest : goal.invariant-others-loop-rest
invariant-others-loop-rest l =
    Reads (separator_word l.separator) (part_at (below l.depth) l.separator) (map tree_of l.parts.items) (signs l.left) (parts_at (length (signs l.tokens)) (separator_word l.separator) (part_at (below l.depth) l.separator) (signs l.tokens))

abbrev pub decreases-others-loop-rest : goal.decreases-others-loop-rest
decreases-others-loop-rest l = length (signs l.left)
