use Rattle.predicates_core.proofs.Children
use Rattle.predicates_core.proofs.laws.one_child.Goals as goal

pub returns : goal.returns
returns c = Children.one_child
