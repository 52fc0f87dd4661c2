use Rattle.predicates_core.specs.Kinds.{changes}
use Rattle.predicates_core.proofs.BothKinds
use Rattle.predicates_core.proofs.FirstOf
use Rattle.predicates_core.proofs.laws.first_changes.Goals as goal

pub returns-clause-one : goal.returns-clause-one
returns-clause-one c = FirstOf.one_list changes

pub returns-clause-some : goal.returns-clause-some
returns-clause-some c = BothKinds.some changes
