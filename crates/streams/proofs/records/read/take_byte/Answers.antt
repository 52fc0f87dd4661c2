use Rattle.streams.proofs.Moving.{Takes-byte, Grows-none, kept_of-yes, kept_of-no}
use Rattle.streams.proofs.records.read.take_byte.Goals as goal

pub returns-in_ok-put : goal.returns-in_ok-put
returns-in_ok-put c =
    let kept = kept_of-yes c.args.byte _ c.if-step.true in
    Takes-byte _ _ _ _ _ _ c.step_of-step.ensures (rw kept c.in_ok-put.ensures.put)

pub returns-else-step : goal.returns-else-step
returns-else-step c =
    let kept = kept_of-no c.args.byte _ c.if-step.false in
    Takes-byte _ _ _ _ _ _ c.step_of-step.ensures (rw kept (Grows-none _ _))
