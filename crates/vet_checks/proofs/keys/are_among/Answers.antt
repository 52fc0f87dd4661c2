use Rattle.std.proofs.Common.{rules, ◌≡◌, ◌∙◌, sym, ap, not}
use Rattle.std.specs.Prelude.{is_some, string_bytes}
use Rattle.std.specs.BTreeSet.{contains_text}
use Rattle.serde_json.specs.View.{members_view}
use Rattle.vet_checks.specs.Keys.{keys_of}
use Rattle.vet_checks.proofs.OtherKeys.{some_of_map, none_beside}
use Rattle.vet_checks.proofs.keys.are_among.Goals as goal

pub returns : goal.returns
returns c =
    let none : c.is_none.result ≡ not (is_some c.other_of.result) = search rules in
    none ∙ ap not (sym (some_of_map (λ key. string_bytes key.now) c.other_of.result) ∙ ap is_some c.other_of.ensures)
    ∙ none_beside (contains_text c.args.allowed.now) (keys_of (members_view c.args.members.now.entries))
