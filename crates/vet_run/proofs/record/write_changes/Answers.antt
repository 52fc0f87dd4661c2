use Rattle.std.proofs.Common.{rules, true, subst}
use Rattle.std.specs.List.{AllZip}
use Rattle.predicates_core.specs.Change.{ExplainsChange}
use Rattle.serde_json.specs.View.{view}
use Rattle.vet_run.specs.Records.{IsShown}
use Rattle.vet_run.proofs.Judging.{broken_shown, rules_shown}
use Rattle.vet_run.proofs.record.write_changes.Goals as goal

pub changes_of-requires : goal.changes_of-requires
changes_of-requires c = broken_shown (view c.args.record.now.value.now) true c.args.job.now.rules.now c.args.broken.now c.requires

pub returns : goal.returns
returns c = record {
  cases = c.in_ok-cases.cases.items;
  explain = subst (λ rs. AllZip (IsShown ExplainsChange (view c.args.record.now.value.now)) rs c.in_ok-cases.cases.items)
      (rules_shown (view c.args.record.now.value.now) true c.args.job.now.rules.now c.args.broken.now c.requires)
      c.in_ok-cases.ensures;
  is = search rules;
}
