use Rattle.predicates_part.specs.Part.{owned}
use Rattle.predicates_core.proofs.Fewer.{found_change_of_fewer}
use Rattle.predicates_part.proofs.Parts.{on_part}
use Rattle.predicates_part.proofs.part.PartPredicateByValuePredicateChange.find_change.Goals as goal

pub returns : goal.returns
returns g c = found_change_of_fewer c.args.wanted c.find_change.result (on_part {read = owned} c.requires.2 c.function-part.ensures) c.find_change.ensures
