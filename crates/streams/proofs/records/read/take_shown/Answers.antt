use Rattle.std.proofs.Common.{arith}
use Rattle.streams.proofs.Moving.{Takes-more, Takes-rest}
use Rattle.streams.proofs.records.read.take_shown.Goals as goal

pub returns-in-Ok-true-clause-taken : goal.returns-in-Ok-true-clause-taken
returns-in-Ok-true-clause-taken c =
    Takes-more _ _ _ _ _ _ _ _ _ _ (omega arith) c.loop-index.invariant (rw c.in-Ok-true.field-0-test at c.in-Ok-true.ensures)

pub returns-in-Err-clause-taken : goal.returns-in-Err-clause-taken
returns-in-Err-clause-taken c = Takes-rest _ _ _ _ _ _ _ _ _ c.loop-index.invariant c.in-Err.ensures

pub loop-index-preserved : goal.loop-index-preserved
loop-index-preserved c =
    Takes-more _ _ _ _ _ _ _ _ _ _ (omega arith) c.loop-index.invariant (rw c.in-Ok-false.field-0-test at c.in-Ok-false.ensures)
