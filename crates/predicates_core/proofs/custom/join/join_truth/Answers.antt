use Rattle.std.proofs.Common.{refl}
use Rattle.predicates_core.proofs.Asked.{truth_of_pair, not_same}
use Rattle.predicates_core.proofs.CombinedLemmas.{HasTruth-left}
use Rattle.predicates_core.proofs.custom.join.join_truth.Goals as goal

pub returns-in_ok-eval-in-And-2-clause-truth : goal.returns-in_ok-eval-in-And-2-clause-truth
returns-in_ok-eval-in-And-2-clause-truth g c = truth_of_pair c.args.operator _ _ c.in_ok-eval-in-And.ensures.truth c.in_ok-eval-in-And-2.ensures.truth (rw (c.in-And.is, c.if-branch.true) refl)

pub returns-else-branch-clause-truth : goal.returns-else-branch-clause-truth
returns-else-branch-clause-truth g c = λ text. HasTruth-left c.args.operator c.in_ok-eval-in-And.ensures.truth refl (λ y. rw (c.in-And.is, c.if-branch.false) refl)

pub returns-then-branch-2-clause-truth : goal.returns-then-branch-2-clause-truth
returns-then-branch-2-clause-truth g c = λ text. HasTruth-left c.args.operator c.in_ok-eval-in-Or.ensures.truth refl (λ y. rw (c.in-Or.is, c.if-branch-2.true) refl)

pub returns-in_ok-eval-in-Or-2-clause-truth : goal.returns-in_ok-eval-in-Or-2-clause-truth
returns-in_ok-eval-in-Or-2-clause-truth g c = truth_of_pair c.args.operator _ _ c.in_ok-eval-in-Or.ensures.truth c.in_ok-eval-in-Or-2.ensures.truth (rw (c.in-Or.is, c.if-branch-2.false) refl)

pub returns-in_ok-eval-in-Xor-2-clause-truth : goal.returns-in_ok-eval-in-Xor-2-clause-truth
returns-in_ok-eval-in-Xor-2-clause-truth g c = truth_of_pair c.args.operator _ _ c.in_ok-eval-in-Xor.ensures.truth c.in_ok-eval-in-Xor-2.ensures.truth (rw c.in-Xor.is (not_same _ _))
