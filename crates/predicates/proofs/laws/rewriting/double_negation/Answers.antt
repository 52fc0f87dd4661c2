use Rattle.predicates_core.proofs.Alike
use Rattle.predicates.proofs.laws.rewriting.double_negation.Goals as goal

pub returns : goal.returns
returns g c = λ f h. Alike.double_negation _ _ f
