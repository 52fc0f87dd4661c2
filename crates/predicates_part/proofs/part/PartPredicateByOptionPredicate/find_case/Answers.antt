use Rattle.std.proofs.Common.{option_copied}
use Rattle.predicates_core.proofs.Fewer.{answer_of_fewer}
use Rattle.predicates_part.proofs.Parts.{on_part}
use Rattle.predicates_part.proofs.part.PartPredicateByOptionPredicate.find_case.Goals as goal

pub returns : goal.returns
returns g c = answer_of_fewer c.args.expected c.present_case.result (on_part {read = option_copied} c.requires.2 c.function-part.ensures) c.present_case.ensures
