use Rattle.std.proofs.Common.{◌≡◌, ℕ, List, Some, false, option_map, sym, ap, ◌∙◌, subst}
use Rattle.predicates_core.specs.Leaves.{IsExactly}
use Rattle.predicates_core.specs.Shows.{IsCaseOf}
use Rattle.predicates_tree.specs.Viewed.{no_list}
use Rattle.serde_json.specs.View.{view}
use Rattle.vet_checks.specs.Nodes.{path_of_view}
use Rattle.vet_checks.specs.CheckTrees.{absence_of_data}
use Rattle.vet_checks.specs.Scopes.{place_of, stands}
use Rattle.vet_checks.proofs.elements.ElementsViewScope.absent_case.Goals as goal

pub returns-in_ok-case-in-Some : goal.returns-in_ok-case-in-Some
returns-in_ok-case-in-Some g c =
    let path = path_of_view c.args.self.now in
    let place = place_of c.args.item.now in
    let found : Some (view c.in-Some.value.now) ≡ stands path place =
    sym (ap (option_map (λ v. view v.now)) c.in-Some.is) ∙ c.at.ensures ∙ ap (λ (p : List ℕ). stands p place) c.deref.ensures in
    subst (λ o. IsCaseOf (IsExactly (no_list (g.W.Display.output c.args.whole.now) (absence_of_data path o))) false c.in_ok-case-in-Some.case) found
    (c.in_ok-case-in-Some.ensures path)
