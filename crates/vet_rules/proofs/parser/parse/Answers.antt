use Rattle.std.proofs.Common.{subst}
use Rattle.vet_rules.specs.Signs.{signs}
use Rattle.vet_rules.specs.Trees.{tree_of}
use Rattle.vet_rules.specs.Answers.{Gives}
use Rattle.vet_rules.proofs.Sound.{is_spelled}
use Rattle.vet_rules.proofs.Grow.{none_spelled}
use Rattle.vet_rules.proofs.Complete.{spelled_again}
use Rattle.vet_rules.proofs.parser.parse.Goals as goal

pub returns-clause-found : goal.returns-clause-found
returns-clause-found c = is_spelled 100 (signs c.args.tokens.now) c.all.result c.all.ensures

pub returns-clause-only : goal.returns-clause-only
returns-clause-only c = λ e s. subst (λ f. Gives tree_of c.all.result f) (spelled_again 100 (signs c.args.tokens.now) e s) c.all.ensures

pub returns-clause-never : goal.returns-clause-never
returns-clause-never c = none_spelled 100 (signs c.args.tokens.now) c.all.result c.all.ensures
