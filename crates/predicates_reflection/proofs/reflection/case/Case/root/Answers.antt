use Rattle.std.proofs.Common.{arith}
use Rattle.predicates_reflection.proofs.Preorder.{count-trees-le}
use Rattle.predicates_reflection.proofs.reflection.case.Case.root.Goals as goal

pub returns-clause-countable : goal.returns-clause-countable
returns-clause-countable c = rw (← c.self.view_is) (omega (arith, count-trees-le c.self.inside.below.items))
