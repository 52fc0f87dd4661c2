use Rattle.std.proofs.Common.{refl}
use Rattle.predicates_core.proofs.Leaves.{HasTruth-exactly, IsCaseOf-showing}
use Rattle.serde_json.specs.View.{view}
use Rattle.vet_checks.specs.CheckTrees.{found_text}
use Rattle.vet_checks.proofs.Leaving.{showing_entry}
use Rattle.vet_checks.proofs.leaf.found_at.Goals as goal

pub returns : goal.returns
returns c = IsCaseOf-showing (showing_entry (found_text (view c.args.value.now)) c.in_ok-found.ensures c.in_ok-showing.ensures) c.in_ok-node.ensures refl (HasTruth-exactly refl)
