use Rattle.std.proofs.Common.{◌≡◌, map, take}
use Rattle.vet_run.specs.Summaries.{row_of}
use Rattle.vet_run.specs.Sums.{named_of}
use Rattle.vet_run.proofs.summary_lines.rows.Given as goal

abbrev pub invariant-loop-rule : goal.invariant-loop-rule
invariant-loop-rule l = map row_of l.rows.items ≡ map named_of (take l.rule-index l.rules)
