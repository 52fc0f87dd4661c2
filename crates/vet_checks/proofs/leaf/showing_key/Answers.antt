use Rattle.std.proofs.Common.{ℕ, List, Some, codes, option_map, sym, ap, subst, ◌∙◌}
use Rattle.std.specs.Prelude.{string_bytes}
use Rattle.predicates_core.specs.Leaves.{IsShowing}
use Rattle.serde_json.specs.Data.{string}
use Rattle.serde_json.specs.Written.{compact_text}
use Rattle.vet_checks.specs.CheckTrees.{ShowsBeside, key_product}
use Rattle.vet_checks.proofs.leaf.showing_key.Goals as goal

pub returns : goal.returns
returns c =
    let found = sym c.other_key.ensures ∙ ap (option_map (λ key. string_bytes key.now)) c.in-Some.is in
    let shown = c.in_ok-shown.ensures ∙ ap (λ key. compact_text (string key)) c.deref.ensures in
    subst (λ key. ShowsBeside (option_map key_product key) c.args.case c.in_ok-showing.field-0) (sym found)
    (subst (λ (bytes : List ℕ). IsShowing (codes "other key") (Some bytes) c.args.case c.in_ok-showing.field-0) shown c.in_ok-showing.ensures)
