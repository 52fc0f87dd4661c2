use Rattle.predicates_core.specs.Kinds.{reasons}
use Rattle.predicates_core.proofs.BothKinds
use Rattle.predicates_core.proofs.FirstOf
use Rattle.predicates_core.proofs.laws.first_reasons.Goals as goal

pub returns-clause-one : goal.returns-clause-one
returns-clause-one c = FirstOf.one_list reasons

pub returns-clause-some : goal.returns-clause-some
returns-clause-some c = BothKinds.some reasons
