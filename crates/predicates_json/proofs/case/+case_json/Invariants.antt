use Rattle.std.proofs.Common.{◌≡◌, ◌++◌, map}
use Rattle.serde_json.specs.View.{view}
use Rattle.predicates_core.specs.CaseViews.{named_case}
use Rattle.predicates_core.specs.Tree.{named_trees, node_count}
use Rattle.predicates_json.proofs.Written.{named_data}
use Rattle.predicates_json.proofs.case.+case_json.Given as goal

abbrev pub decreases-case_json : goal.decreases-case_json
decreases-case_json l = node_count l.case.now.children

abbrev pub invariant-loop-name : goal.invariant-loop-name
invariant-loop-name l =
    (goal.iterator-loop-name).can_next l.name-iterator
    × (goal.iterator-loop-name).is_finite l.name-iterator
    × (named_trees l.case.children ≡ map named_case l.yielded ++ l.name-iterator)
    × (map view l.children.items ≡ map named_data (map named_case l.yielded))
