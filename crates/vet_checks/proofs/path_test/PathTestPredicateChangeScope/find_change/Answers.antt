use Rattle.std.proofs.Common.{Bool, Ok}
use Rattle.predicates_core.proofs.ChangeCases.{exact_leaf, leaf_found}
use Rattle.vet_checks.proofs.path_test.PathTestPredicateChangeScope.find_change.Goals as goal

pub returns : goal.returns
returns c = leaf_found {E = Bool} c.args.wanted (Ok c.in_ok-found.found) exact_leaf c.in_ok-found.ensures
