use Rattle.predicates_core.proofs.name.NamePredicatePredicateChange.find_change.Goals as goal

pub returns : goal.returns
returns g c = rw c.text.ensures at c.named_change.ensures
