use Rattle.std.proofs.Common.{◌++◌, map, refl, sym, ap, ◌∙◌}
use Rattle.serde_json.specs.View.{view}
use Rattle.vet_checks.specs.Scopes.{place_of}
use Rattle.vet_checks.proofs.Listing.{place_in, value_more, values_all}
use Rattle.vet_checks.proofs.elements.scopes_of_values.Goals as goal

pub loop-item-preserved : goal.loop-item-preserved
loop-item-preserved c =
    let whole = view c.args.whole.now in
    let done = c.loop-item.scopes.items in
    rw c.in_ok-push.ensures.items (value_more whole done _ c.in-Some.item.now c.next.new.self _ refl
    (ap (λ vs. map place_of done ++ map (place_in whole) vs) (sym c.in-Some.ensures.steps) ∙ c.loop-item.invariant))

pub returns : goal.returns
returns c =
    let whole = view c.args.whole.now in
    let done = c.loop-item.scopes.items in
    values_all whole done c.args.members.now.entries
    (ap (λ vs. map place_of done ++ map (place_in whole) vs) (sym c.in-None.ensures.steps.0) ∙ c.loop-item.invariant)
