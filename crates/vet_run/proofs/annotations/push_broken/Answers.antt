use Rattle.std.proofs.Common.{rules, List, ℕ, ap, map, refl, subst, sym, ◌∙◌}
use Rattle.std.specs.List.{AllZip}
use Rattle.std.specs.Prelude.{flat_map, string_bytes}
use Rattle.predicates_core.specs.Shows.{Explains}
use Rattle.serde_json.specs.View.{view}
use Rattle.vet_run.specs.GitHub.{file_of, line_of, opening}
use Rattle.vet_run.specs.Judgements.{rule_of}
use Rattle.vet_run.specs.Records.{AreBroken, IsShown, error_of}
use Rattle.vet_run.specs.Settings.{id_of, source_of, style_of}
use Rattle.vet_run.proofs.Judging.{broken_shown, rules_shown}
use Rattle.vet_run.proofs.annotations.push_broken.Goals as goal

pub cases_of-requires : goal.cases_of-requires
cases_of-requires c =
    let d = view c.args.record.now.value.now in
    subst (λ bs. AreBroken d (map rule_of bs)) (sym c.shown.ensures) (broken_shown d c.args.all c.args.job.now.rules.now c.args.broken.now c.requires)

pub returns : goal.returns
returns c =
    let d = view c.args.record.now.value.now in
    let j = c.args.job.now in
    let explain = subst (λ rs. AllZip (IsShown Explains d) rs c.in_ok-cases.cases.items)
    (ap (map rule_of) c.shown.ensures ∙ rules_shown d c.args.all j.rules.now c.args.broken.now c.requires)
    c.in_ok-cases.ensures in
    let file = file_of (source_of j) in
    let line = line_of j.format c.args.record.now.number in
    let written : List ℕ =
    flat_map (error_of (style_of j) file line (opening file line (id_of j.settings.now) (string_bytes c.in_ok-head.head))) c.in_ok-cases.cases.items in (
      written,
      record {
        cases = c.in_ok-cases.cases.items;
        explain = explain;
        head = string_bytes c.in_ok-head.head;
        heads = c.in_ok-head.ensures;
        is = refl;
      },
      search rules,
    )
