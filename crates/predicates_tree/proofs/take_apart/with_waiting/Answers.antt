use Rattle.predicates_tree.proofs.Dropping.{sizes_first}
use Rattle.predicates_tree.proofs.take_apart.with_waiting.Goals as goal

pub returns-in-Some : goal.returns-in-Some
returns-in-Some g c = rw (c.with_first.ensures, c.in-Some.is) (sizes_first c.in-Some.rest c.args.parts.items)
