use Rattle.std.proofs.Common.{◌∙◌, ap, map, ◌∷◌, [], refl, string_bytes}
use Rattle.std.proofs.lemmas.List.{map-append}
use Rattle.indexmap.proofs.CallerLemmas.{insert_entry-new}
use Rattle.vet_rules.specs.Findings.{numbered_of}
use Rattle.vet_rules.proofs.Files.{not_found}
use Rattle.vet_rules.proofs.findings.with_new.Goals as goal

pub returns : goal.returns
returns c =
    let none = not_found (string_bytes c.args.rule.name) c.args.findings.rules.entries c.requires in
    (refl, ap (map numbered_of) (c.in_ok-insert.ensures.entries ∙ insert_entry-new _ c.args.findings.rules c.args.rule.name (record { expression = c.args.rule.expression; line = c.args.line }) none) ∙ map-append numbered_of c.args.findings.rules.entries ((c.args.rule.name, record { expression = c.args.rule.expression; line = c.args.line }) ∷ []))
