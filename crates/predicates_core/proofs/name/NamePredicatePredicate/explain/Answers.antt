use Rattle.predicates_core.proofs.name.NamePredicatePredicate.explain.Goals as goal

pub returns : goal.returns
returns g c = rw c.text.ensures at c.named_explained.ensures
