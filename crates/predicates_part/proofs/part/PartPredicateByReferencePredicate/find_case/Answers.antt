use Rattle.predicates_part.specs.Part.{borrowed}
use Rattle.predicates_core.proofs.Fewer.{answer_of_fewer}
use Rattle.predicates_part.proofs.Parts.{on_part}
use Rattle.predicates_part.proofs.part.PartPredicateByReferencePredicate.find_case.Goals as goal

pub returns : goal.returns
returns g c = answer_of_fewer c.args.expected c.find_case.result (on_part {read = borrowed} c.requires.2 c.function-part.ensures) c.find_case.ensures
