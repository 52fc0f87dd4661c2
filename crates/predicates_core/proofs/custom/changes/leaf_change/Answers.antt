use Rattle.predicates_core.proofs.ChangeCases.{leaf_found}
use Rattle.predicates_core.proofs.custom.changes.leaf_change.Goals as goal

pub returns : goal.returns
returns g c = leaf_found c.args.wanted _ c.requires.leaf c.explain.ensures
