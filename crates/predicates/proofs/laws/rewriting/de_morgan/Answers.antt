use Rattle.predicates_core.proofs.Alike
use Rattle.predicates.proofs.laws.rewriting.de_morgan.Goals as goal

pub returns-clause-not_both : goal.returns-clause-not_both
returns-clause-not_both g c = λ f h of_f of_h. Alike.negated_and _ _ _ _ _ f h

pub returns-clause-not_either : goal.returns-clause-not_either
returns-clause-not_either g c = λ f h of_f of_h. Alike.negated_or _ _ _ _ _ f h
