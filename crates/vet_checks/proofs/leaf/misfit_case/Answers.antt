use Rattle.std.proofs.Common.{refl, codes}
use Rattle.serde_json.specs.View.{view}
use Rattle.predicates_core.proofs.Leaves.{HasTruth-exactly, IsCaseOf-showing}
use Rattle.vet_checks.specs.CheckTrees.{found_text, no_list_text}
use Rattle.vet_checks.proofs.Leaving.{showing_entry, one_more_of}
use Rattle.vet_checks.proofs.leaf.misfit_case.Goals as goal

pub returns : goal.returns
returns g c = λ path.
    let found = IsCaseOf-showing (showing_entry (found_text (view c.args.value.now)) c.in_ok-found.ensures c.in_ok-shown.ensures) c.leaf_node-node.ensures c.in_ok-printed.ensures (HasTruth-exactly refl) in
    one_more_of (g.W.Display.output c.args.whole.now) (codes "found") (found_text (view c.args.value.now)) no_list_text c.in_ok-showing_text.ensures found
