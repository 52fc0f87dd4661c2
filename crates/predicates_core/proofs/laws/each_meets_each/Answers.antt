use Rattle.predicates_core.proofs.Changes
use Rattle.predicates_core.proofs.laws.each_meets_each.Goals as goal

pub returns : goal.returns
returns c = Changes.each_meets_each
