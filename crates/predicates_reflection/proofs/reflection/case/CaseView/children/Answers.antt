use Rattle.std.proofs.Common.{arith}
use Rattle.predicates_reflection.proofs.Preorder.{length-trees-le}
use Rattle.predicates_reflection.proofs.reflection.case.CaseView.children.Goals as goal

pub returns-clause-countable : goal.returns-clause-countable
returns-clause-countable c = omega (arith, length-trees-le c.self.inside.below.now)
