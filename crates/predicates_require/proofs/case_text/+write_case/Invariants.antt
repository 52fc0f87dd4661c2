use Rattle.std.proofs.Common.{◌≡◌, ◌+◌, ◌++◌, Ok, map, flat_map}
use Rattle.std.specs.Fmt.{WritesOnOk}
use Rattle.predicates_core.specs.CaseViews.{named_case}
use Rattle.predicates_core.specs.Tree.{named_trees, node_count}
use Rattle.predicates_core.specs.Lines.{child_lines}
use Rattle.predicates_require.proofs.case_text.+write_case.Given as goal

abbrev pub decreases-write_case : goal.decreases-write_case
decreases-write_case g l = node_count l.case.now.children

abbrev pub invariant-loop-name : goal.invariant-loop-name
invariant-loop-name g l =
    (goal.iterator-loop-name g).can_next l.name-iterator
    × (goal.iterator-loop-name g).is_finite l.name-iterator
    × (named_trees l.case.children ≡ map named_case l.yielded ++ l.name-iterator)
    × WritesOnOk g.W.Write.write_str_gives l.initial.f (Ok tt) (flat_map (child_lines (l.depth + 1)) (map named_case l.yielded)) l.f
