use Rattle.vet_checks.proofs.CheckFormulas.{all_lawful, change_of_check}
use Rattle.vet_checks.specs.CheckTrees.{check_tree}
use Rattle.vet_checks.proofs.check.CheckPredicateChangeValue.find_change.Goals as goal

pub find_change-requires : goal.find_change-requires
find_change-requires c = all_lawful (check_tree c.args.self.now.tree)

pub returns : goal.returns
returns c = change_of_check (record { whole = c.args.item; item = c.args.item }) (check_tree c.args.self.now.tree) c.args.wanted c.in_ok-found.found c.in_ok-found.ensures
