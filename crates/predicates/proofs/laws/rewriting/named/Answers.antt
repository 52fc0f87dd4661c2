use Rattle.predicates_core.proofs.Alike
use Rattle.predicates.proofs.laws.rewriting.named.Goals as goal

pub returns : goal.returns
returns g c = λ f h. Alike.named _ _ f
