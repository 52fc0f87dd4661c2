use Rattle.std.proofs.Common.{sym, ap, ◌∙◌, arith, length}
use Rattle.predicates_reflection.proofs.Preorder.{splits_first}
use Rattle.predicates_reflection.proofs.reflection.case.CaseChildrenIterator.next.Goals as goal

pub invariant_of-result : goal.invariant_of-result
invariant_of-result c =
    (splits_first c.self.inside.rest.now _ _ _ _ _ c.self.invariant c.as_str.ensures c.in_ok-first.ensures.cases.0 c.split_at.ensures.front c.split_at.ensures.back).front_preorder

pub invariant_of-self : goal.invariant_of-self
invariant_of-self c =
    (splits_first c.self.inside.rest.now _ _ _ _ _ c.self.invariant c.as_str.ensures c.in_ok-first.ensures.cases.0 c.split_at.ensures.front c.split_at.ensures.back).back_preorder

pub returns-clause-steps : goal.returns-clause-steps
returns-clause-steps c =
    sym c.self.view_is
    ∙ (splits_first c.self.inside.rest.now _ _ _ _ _ c.self.invariant c.as_str.ensures c.in_ok-first.ensures.cases.0 c.split_at.ensures.front c.split_at.ensures.back).tree_first

pub returns-clause-goes : goal.returns-clause-goes
returns-clause-goes c =
    let step = sym c.self.view_is
    ∙ (splits_first c.self.inside.rest.now _ _ _ _ _ c.self.invariant c.as_str.ensures c.in_ok-first.ensures.cases.0 c.split_at.ensures.front c.split_at.ensures.back).tree_first in
    let fewer = ap length step in
    record {
      on = λ _. (tt, tt, omega arith);
      keeps = tt;
      rests = λ _. tt;
    }
