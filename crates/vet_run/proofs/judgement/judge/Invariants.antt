use Rattle.std.proofs.Common.{map}
use Rattle.serde_json.specs.View.{view}
use Rattle.vet_run.specs.Judgements.{placed}
use Rattle.vet_run.proofs.Judging.{AreJudged}
use Rattle.vet_run.proofs.judgement.judge.Given as goal

abbrev pub invariant-loop-place : goal.invariant-loop-place
invariant-loop-place l = AreJudged (view l.value) l.whole l.rules l.place (map placed l.broken.items)
