use Rattle.vet_checks.proofs.CheckFormulas.{all_lawful, truth_of_check}
use Rattle.vet_checks.specs.CheckTrees.{check_tree}
use Rattle.vet_checks.proofs.check.Check.holds.Goals as goal

pub eval_with-requires : goal.eval_with-requires
eval_with-requires c = all_lawful (check_tree c.args.self.now.tree)

pub returns : goal.returns
returns c = truth_of_check (record { whole = c.args.item; item = c.args.item }) (check_tree c.args.self.now.tree) c.in_ok-held.ensures.truth
