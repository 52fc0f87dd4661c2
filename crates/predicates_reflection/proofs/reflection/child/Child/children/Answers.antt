use Rattle.std.proofs.Common.{ap, sym, ◌∙◌}
use Rattle.predicates_reflection.specs.Tree.{named_trees}
use Rattle.predicates_reflection.specs.Describe.{NamedChild}
use Rattle.predicates_reflection.proofs.Forests.{named_trees-forest}
use Rattle.predicates_reflection.proofs.reflection.child.Child.children.Goals as goal

pub returns : goal.returns
returns c =
    c.as_slice.ensures.value
    ∙ sym (named_trees-forest c.self.inside.children.items)
    ∙ ap (λ (t : NamedChild). named_trees t.1.children) c.self.view_is
