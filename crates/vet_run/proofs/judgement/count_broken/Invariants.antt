use Rattle.std.proofs.Common.{◌≡◌, map, take}
use Rattle.vet_run.specs.Judgements.{placed, counted_each}
use Rattle.vet_run.proofs.judgement.count_broken.Given as goal

abbrev pub invariant-loop-rule : goal.invariant-loop-rule
invariant-loop-rule l = l.counts.items ≡ counted_each (map placed (take l.rule-index l.broken)) l.initial.counts.items
