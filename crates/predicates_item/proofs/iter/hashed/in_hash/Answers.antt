use Rattle.std.proofs.Common.{rules}
use Rattle.predicates_item.proofs.Memberships.{keeps_first}
use Rattle.predicates_item.proofs.iter.hashed.in_hash.Goals as goal

pub returns-clause-first : goal.returns-clause-first
returns-clause-first g c = keeps_first g.met.T.Eq.laws (search rules)
