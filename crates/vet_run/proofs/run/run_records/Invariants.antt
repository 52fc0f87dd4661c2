use Rattle.vet_run.proofs.Running.{HasTold}
use Rattle.vet_run.proofs.run.run_records.Given as goal

abbrev pub invariant-loop-taken : goal.invariant-loop-taken
invariant-loop-taken g l = HasTold l.job
    (g.R.Read.remaining l.initial.input) (g.R.Read.remaining l.input)
    (g.W.Write.contents l.initial.streams.output) (g.W.Write.contents l.streams.output)
    (g.M.Write.contents l.initial.streams.messages) (g.M.Write.contents l.streams.messages)
    l.position l.taken l.initial.tally l.tally
