use Rattle.predicates_core.proofs.Alike
use Rattle.predicates.proofs.laws.rewriting.same_function.Goals as goal

pub returns : goal.returns
returns g c = λ f h of_f of_h same. Alike.same_function f h same
