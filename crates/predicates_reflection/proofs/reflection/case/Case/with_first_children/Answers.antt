use Rattle.std.proofs.Common.{ap, refl, sym, ◌∙◌, take}
use Rattle.predicates_reflection.specs.Tree.{forest}
use Rattle.predicates_reflection.specs.CaseFields.{node_of, trees}
use Rattle.predicates_reflection.proofs.Forests.{forest-named_trees}
use Rattle.predicates_reflection.proofs.reflection.case.Case.with_first_children.Goals as goal

pub returns : goal.returns
returns c =
    let first = rw c.as_slice.ensures.value at c.end_of_first-end.ensures.trees in
    ap (λ f. record { root = node_of c.self.inside.root; children = f }) (ap trees c.truncate.ensures.items ∙ sym (forest-named_trees (trees (take c.end_of_first-end.result c.self.inside.below.items))) ∙ ap forest first)
    ∙ rw (← c.self.view_is) refl
