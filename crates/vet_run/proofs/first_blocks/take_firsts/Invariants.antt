use Rattle.std.proofs.Common.{map, take}
use Rattle.std.specs.Prelude.{string_bytes}
use Rattle.serde_json.specs.View.{view}
use Rattle.vet_run.specs.Judgements.{placed, TakesEach}
use Rattle.vet_run.proofs.first_blocks.take_firsts.Given as goal

abbrev pub invariant-loop-rule : goal.invariant-loop-rule
invariant-loop-rule l = TakesEach l.job l.record.number (view l.record.value.now) (map placed (take l.rule-index l.broken))
    (map string_bytes l.initial.blocks.items) (map string_bytes l.blocks.items)
