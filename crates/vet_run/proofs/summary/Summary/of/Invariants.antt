use Rattle.std.proofs.Common.{◌≡◌, map, take, vec_len}
use Rattle.vet_checks.specs.RuleChecks.{name_of}
use Rattle.vet_run.specs.Summaries.{rows_of}
use Rattle.vet_run.specs.Sums.{named_of}
use Rattle.vet_run.proofs.summary.Summary.of.Given as goal

abbrev pub invariant-loop-rule : goal.invariant-loop-rule
invariant-loop-rule l = record {
  rows : map named_of l.counted.items ≡ rows_of 0 (map name_of (take l.rule-index l.rules)) l.tally.broken.items;
  count : vec_len l.counted ≡ l.rule-index;
}
