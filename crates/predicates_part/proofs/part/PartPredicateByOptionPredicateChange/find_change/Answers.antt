use Rattle.std.proofs.Common.{option_copied}
use Rattle.predicates_core.proofs.Fewer.{found_change_of_fewer}
use Rattle.predicates_part.proofs.Parts.{on_part}
use Rattle.predicates_part.proofs.part.PartPredicateByOptionPredicateChange.find_change.Goals as goal

pub returns : goal.returns
returns g c = found_change_of_fewer c.args.wanted c.present_change.result (on_part {read = option_copied} c.requires.2 c.function-part.ensures) c.present_change.ensures
