use Rattle.std.proofs.Common.{◌+◌, arith, ap, ◌∙◌, map, refl, rules}
use Rattle.std.proofs.lemmas.List.{take_all}
use Rattle.vet_checks.specs.RuleChecks.{name_of}
use Rattle.vet_run.specs.Summaries.{rows_of}
use Rattle.std.specs.Prelude.{slice_index}
use Rattle.vet_run.specs.Sums.{sum_of}
use Rattle.vet_run.proofs.Ranking.{row_more}
use Rattle.vet_run.proofs.Sums.{run_counted}
use Rattle.vet_run.proofs.summary.Summary.of.Goals as goal

pub loop-rule-preserved : goal.loop-rule-preserved
loop-rule-preserved c = record {
  rows = row_more c.args.rules.now c.loop-rule.rule-index c.rule-item.result c.args.tally.now.broken.items c.loop-rule.counted.items c.push.new.self.items _ (omega arith) c.rule-item.is c.loop-rule.invariant.rows
      c.in_ok-push.ensures.items (search rules)
      (c.count_at-broken.ensures ∙ ap (λ l. slice_index l c.len.result) c.deref.ensures.value ∙ ap (slice_index c.args.tally.now.broken.items) (c.len.ensures ∙ c.loop-rule.invariant.count));
  count = c.in_ok-push.ensures.len ∙ ap (λ n. n + 1) c.loop-rule.invariant.count;
}

pub returns-clause-over : goal.returns-clause-over
returns-clause-over c =
    λ lines counted all. run_counted c.args.rules.now lines _ c.args.tally.now.counts c.args.tally.now.broken.items
    (sum_of (record { counts = c.args.tally.now.counts; rules = c.loop-rule.counted })) refl refl refl refl refl refl
    (c.loop-rule.invariant.rows ∙ ap (λ rs. rows_of 0 (map name_of rs) c.args.tally.now.broken.items) (take_all c.loop-rule.rule-index c.args.rules.now (omega (arith, c.loop-rule-test.false)))) counted all
