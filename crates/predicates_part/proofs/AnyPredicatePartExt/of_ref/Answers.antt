use Rattle.predicates_part.proofs.AnyPredicatePartExt.of_ref.Goals as goal

pub returns-clause-lawful : goal.returns-clause-lawful
returns-clause-lawful g c = rw (c.new.ensures.inner, c.new.ensures.function) at c.new-2.ensures.lawful
