use Rattle.predicates_core.proofs.Children
use Rattle.predicates_core.proofs.laws.enough_children.Goals as goal

pub returns : goal.returns
returns c = Children.enough_children
