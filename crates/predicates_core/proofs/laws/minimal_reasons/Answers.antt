use Rattle.predicates_core.proofs.BothKinds
use Rattle.predicates_core.proofs.laws.minimal_reasons.Goals as goal

pub returns : goal.returns
returns c = BothKinds.minimal_reasons
