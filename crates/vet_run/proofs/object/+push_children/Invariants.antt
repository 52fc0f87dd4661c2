use Rattle.std.proofs.Common.{◌≡◌, ◌++◌, false, map}
use Rattle.std.specs.Prelude.{string_bytes}
use Rattle.predicates_core.specs.CaseViews.{named_case}
use Rattle.predicates_core.specs.Tree.{named_trees, node_count}
use Rattle.vet_run.specs.Objects.{listed}
use Rattle.vet_run.proofs.Listing.{some_in, named_text}
use Rattle.vet_run.proofs.object.+push_children.Given as goal

abbrev pub decreases-push_children : goal.decreases-push_children
decreases-push_children l = node_count l.case.now.children

abbrev pub invariant-loop-name : goal.invariant-loop-name
invariant-loop-name l =
    (goal.iterator-loop-name).can_next l.name-iterator
    × (goal.iterator-loop-name).is_finite l.name-iterator
    × (named_trees l.case.children ≡ map named_case l.yielded ++ l.name-iterator)
    × (l.later ≡ some_in l.yielded)
    × (string_bytes l.text ≡ string_bytes l.initial.text ++ listed false (map named_text (map named_case l.yielded)))
