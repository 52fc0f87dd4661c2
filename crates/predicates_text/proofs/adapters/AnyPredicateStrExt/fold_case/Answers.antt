use Rattle.predicates_text.proofs.CaseFolding.{folded_each}
use Rattle.predicates_text.proofs.adapters.AnyPredicateStrExt.fold_case.Goals as goal

pub returns-clause-again : goal.returns-clause-again
returns-clause-again g c twice v f same = rw same (folded_each (g.P.Predicate.formula c.new.result.inner) v f)
