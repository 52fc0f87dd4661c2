use Rattle.explain_run.specs.Filtered.{HasPassed}
use Rattle.explain_run.proofs.run.run_lines.Given as goal

abbrev pub invariant-loop-taken : goal.invariant-loop-taken
invariant-loop-taken g l = HasPassed (g.J.JudgeLine.is_verdict l.judge) (g.J.JudgeLine.is_kept l.judge) (g.J.JudgeLine.is_told l.judge)
    (g.R.Read.remaining l.initial.input) (g.R.Read.remaining l.input)
    (g.W.Write.contents l.initial.output) (g.W.Write.contents l.output)
    (g.T.Write.contents l.initial.reasons) (g.T.Write.contents l.reasons) l.taken l.counts
