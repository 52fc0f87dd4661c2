use Rattle.predicates_part.specs.Part.{owned}
use Rattle.predicates_core.proofs.Fewer.{found_of_fewer}
use Rattle.predicates_part.proofs.Parts.{on_part}
use Rattle.predicates_part.proofs.part.PartPredicateByValuePredicate.explain.Goals as goal

pub returns : goal.returns
returns g c = found_of_fewer c.args.wanted c.explain.result (on_part {read = owned} c.requires.2 c.function-part.ensures) c.explain.ensures
