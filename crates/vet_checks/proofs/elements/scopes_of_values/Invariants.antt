use Rattle.std.proofs.Common.{◌≡◌, ◌++◌, map}
use Rattle.std.specs.BTreeMap.{values}
use Rattle.serde_json.specs.View.{view}
use Rattle.vet_checks.specs.Scopes.{place_of}
use Rattle.vet_checks.proofs.Listing.{place_in}
use Rattle.vet_checks.proofs.elements.scopes_of_values.Given as goal

abbrev pub invariant-loop-item : goal.invariant-loop-item
invariant-loop-item l = map place_of l.scopes.items ++ map (place_in (view l.fn.whole)) l.item-iterator ≡ map (place_in (view l.fn.whole)) (values l.members)
