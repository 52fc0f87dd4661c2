use Rattle.std.proofs.Common.{◌≡◌, ◌+◌, ◌++◌, take, map, flat_map, codes, string_bytes}
use Rattle.predicates_reflection.specs.CaseViews.{named_case}
use Rattle.predicates_reflection.specs.Tree.{named_trees, node_count}
use Rattle.predicates_reflection.specs.Lines.{indented, product_line, child_lines}
use Rattle.predicates_reflection.proofs.reflection.text.+write_case.Given as goal

abbrev pub decreases-write_case : goal.decreases-write_case
decreases-write_case l = node_count l.case.now.children

abbrev pub invariant-loop-product : goal.invariant-loop-product
invariant-loop-product l =
    string_bytes l.out ≡ string_bytes l.initial.out ++ flat_map (product_line (indented l.depth ++ codes "  ")) (take l.product-index l.product-items)

abbrev pub invariant-loop-name : goal.invariant-loop-name
invariant-loop-name l =
    (goal.iterator-loop-name).can_next l.name-iterator
    × (goal.iterator-loop-name).is_finite l.name-iterator
    × (named_trees l.case.children ≡ map named_case l.yielded ++ l.name-iterator)
    × (string_bytes l.out ≡ string_bytes l.initial.out ++ flat_map (child_lines (l.depth + 1)) (map named_case l.yielded))
