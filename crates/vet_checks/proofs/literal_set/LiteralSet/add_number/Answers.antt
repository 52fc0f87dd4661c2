use Rattle.vet_checks.proofs.LiteralSets.{number_added}
use Rattle.vet_checks.proofs.literal_set.LiteralSet.add_number.Goals as goal

pub returns : goal.returns
returns c = number_added c.args.self.now _ c.args.member c.in_ok-insert.ensures.updates.0
