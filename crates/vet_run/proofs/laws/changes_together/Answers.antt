use Rattle.vet_run.proofs.Together.{shown_together}
use Rattle.vet_run.proofs.laws.changes_together.Goals as goal

pub returns : goal.returns
returns c = shown_together
