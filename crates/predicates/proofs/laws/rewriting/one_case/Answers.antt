use Rattle.predicates_core.proofs.OneCase
use Rattle.predicates.proofs.laws.rewriting.one_case.Goals as goal

pub returns : goal.returns
returns g c = λ f of_f stated. record { same = λ one other h k. OneCase.one_case f one other stated h k }
