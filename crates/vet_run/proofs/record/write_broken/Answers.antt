use Rattle.std.proofs.Common.{rules, ap, map, subst, sym, ◌∙◌}
use Rattle.std.specs.List.{AllZip}
use Rattle.predicates_core.specs.Shows.{Explains}
use Rattle.serde_json.specs.View.{view}
use Rattle.vet_run.specs.Judgements.{rule_of}
use Rattle.vet_run.specs.Records.{AreBroken, IsShown}
use Rattle.vet_run.proofs.Judging.{broken_shown, rules_shown}
use Rattle.vet_run.proofs.record.write_broken.Goals as goal

pub cases_of-requires : goal.cases_of-requires
cases_of-requires c =
    let d = view c.args.record.now.value.now in
    subst (λ bs. AreBroken d (map rule_of bs)) (sym c.shown.ensures) (broken_shown d c.args.all c.args.job.now.rules.now c.args.broken.now c.requires)

pub returns : goal.returns
returns c =
    let d = view c.args.record.now.value.now in
    record {
      cases = c.in_ok-cases.cases.items;
      explain = subst (λ rs. AllZip (IsShown Explains d) rs c.in_ok-cases.cases.items)
          (ap (map rule_of) c.shown.ensures ∙ rules_shown d c.args.all c.args.job.now.rules.now c.args.broken.now c.requires)
          c.in_ok-cases.ensures;
      is = search rules;
    }
