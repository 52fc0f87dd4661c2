use Rattle.predicates_core.proofs.name.NamePredicatePredicate.find_case.Goals as goal

pub returns : goal.returns
returns g c = rw c.text.ensures at c.named_case.ensures
