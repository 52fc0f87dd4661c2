use Rattle.std.proofs.Common.{refl, subst, codes, Some, List, ℕ}
use Rattle.predicates_core.specs.Leaves.{IsShowing}
use Rattle.predicates_core.proofs.Leaves.{HasTruth-exactly, IsCaseOf-showing}
use Rattle.vet_checks.proofs.leaf.nothing_at.Goals as goal

pub returns : goal.returns
returns c = IsCaseOf-showing (subst (λ (bytes : List ℕ). IsShowing (codes "error") (Some bytes) c.in_ok-node.node c.in_ok-showing.field-0) c.in_ok-error.ensures c.in_ok-showing.ensures) c.in_ok-node.ensures refl (HasTruth-exactly refl)
