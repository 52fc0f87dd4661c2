use Rattle.std.proofs.Common.{◌≡◌, ◌+◌, ◌++◌, ◌<◌, ◌^◌, length, take, map, flat_map, codes, string_bytes}
use Rattle.predicates_reflection.specs.CaseViews.{named_case}
use Rattle.predicates_reflection.specs.Tree.{named_trees, node_count}
use Rattle.predicates_reflection.specs.Lines.{indented}
use Rattle.predicates_style.specs.StyledLines.{styled_product}
use Rattle.predicates_style.proofs.Children.{children_shown}
use Rattle.predicates_style.proofs.text.+write_case.Given as goal

abbrev pub decreases-write_case : goal.decreases-write_case
decreases-write_case l = node_count l.case.now.children

abbrev pub invariant-loop-product : goal.invariant-loop-product
invariant-loop-product l =
    string_bytes l.out ≡ string_bytes l.initial.out ++ flat_map (styled_product l.style (indented l.depth ++ codes "  ")) (take l.product-index l.product-items)

abbrev pub invariant-loop-name : goal.invariant-loop-name
invariant-loop-name l =
    (goal.iterator-loop-name).can_next l.name-iterator
    × (goal.iterator-loop-name).is_finite l.name-iterator
    × (named_trees l.case.children ≡ map named_case l.yielded ++ l.name-iterator)
    × (length (named_trees l.case.children) < 2 ^ 64)
    × (l.number ≡ length (map named_case l.yielded))
    × (string_bytes l.out ≡ string_bytes l.initial.out ++ children_shown l.style (l.depth + 1) 0 (map named_case l.yielded))
