use Rattle.std.proofs.Common.{Ok, ap, refl}
use Rattle.vet_run.proofs.Running.{has_told_none, has_told_more, has_stopped, long_one, on_err}
use Rattle.vet_run.proofs.run.run_records.Goals as goal
use Rattle.vet_run.proofs.run.run_records.Goals.{in-Line+in_ok-take_line-in-Line, in-TooLong+in_ok-take_long_line-in-TooLong}

pub loop-taken-init : goal.loop-taken-init
loop-taken-init g c = has_told_none c.args.job.now _ _ _ c.args.tally.now

-- of a line that is too long only a message is written
pub loop-taken-preserved : goal.loop-taken-preserved
loop-taken-preserved g c = elim c.match-found.branch [
  | in-Line+in_ok-take_line-in-Line w ↦
      rw (w.tally-is, w.streams-is) (has_told_more c.args.job.now _ _ _ _ _ _ _ _ _ _ _ _ _ _ _ _
      c.loop-taken.invariant (c.in_ok-found.ensures.piece (ap Ok w.in-Line.is))
      (rw w.deref.ensures.value at w.in_ok-take_line-in-Line.ensures.taken))
  | in-TooLong+in_ok-take_long_line-in-TooLong w ↦
      rw (w.tally-is, w.streams-is) (has_told_more c.args.job.now _ _ _ _ _ _ _ _ _ _ _ _ _ _ _ _
      c.loop-taken.invariant (c.in_ok-found.ensures.too_long (ap Ok w.in-TooLong.is))
      (long_one c.args.job.now _ _ _ _ _ _ w.in_ok-take_long_line-in-TooLong.ensures.message
      w.in_ok-take_long_line-in-TooLong.ensures.one w.in_ok-take_long_line-in-TooLong.ensures.broken
      w.in_ok-take_long_line-in-TooLong.ensures.firsts w.in_ok-take_long_line-in-TooLong.ensures.left))
]

pub returns-in_err-found-clause-stopped : goal.returns-in_err-found-clause-stopped
returns-in_err-found-clause-stopped g c =
    on_err _ (has_stopped c.args.job.now _ _ _ _ _ _ _ _ _ _ _ c.loop-taken.invariant refl)

pub returns-in_err-take_line-in-Line-clause-stopped :
    goal.returns-in_err-take_line-in-Line-clause-stopped
returns-in_err-take_line-in-Line-clause-stopped g c =
    on_err _ (has_stopped c.args.job.now _ _ _ _ _ _ _ _ _ _ _ c.loop-taken.invariant c.in_err-take_line-in-Line.ensures.counts)

pub returns-in_err-take_long_line-in-TooLong-clause-stopped :
    goal.returns-in_err-take_long_line-in-TooLong-clause-stopped
returns-in_err-take_long_line-in-TooLong-clause-stopped g c =
    on_err _ (has_stopped c.args.job.now _ _ _ _ _ _ _ _ _ _ _ c.loop-taken.invariant c.in_err-take_long_line-in-TooLong.ensures.none)

pub returns-in_err-flush-in-End-clause-stopped : goal.returns-in_err-flush-in-End-clause-stopped
returns-in_err-flush-in-End-clause-stopped g c =
    on_err _ (has_stopped c.args.job.now _ _ _ _ _ _ _ _ _ _ _ c.loop-taken.invariant refl)

pub returns-in_err-next_piece-clause-stopped : goal.returns-in_err-next_piece-clause-stopped
returns-in_err-next_piece-clause-stopped g c =
    on_err _ (has_stopped c.args.job.now _ _ _ _ _ _ _ _ _ _ _ c.loop-taken.invariant refl)

pub returns-in_err-flush-in-End-2-clause-stopped : goal.returns-in_err-flush-in-End-2-clause-stopped
returns-in_err-flush-in-End-2-clause-stopped g c =
    on_err _ (has_stopped c.args.job.now _ _ _ _ _ _ _ _ _ _ _ c.loop-taken.invariant refl)
