use Rattle.vet_rules.proofs.Grow.{one_tree}
use Rattle.vet_rules.proofs.parser.one_meaning.Goals as goal

pub returns : goal.returns
returns c = one_tree
