use Rattle.predicates_core.proofs.Alike
use Rattle.predicates.proofs.laws.rewriting.exclusive_or.Goals as goal

pub returns : goal.returns
returns g c = λ f h of_f of_h. Alike.negated_xor _ _ _ _ f h
