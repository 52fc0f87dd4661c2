use Rattle.std.proofs.Common.{arith}
use Rattle.explain_run.proofs.CommandLine.{two_words, numbers_of}
use Rattle.explain_run.proofs.program.read.read_bounds.Goals as goal

pub returns-in-len2 : goal.returns-in-len2
returns-in-len2 c =
    numbers_of _ _ _ c.read_numbers.result
    (two_words c.args.words.now c.lo-item.result c.hi-item.result (omega (arith, c.in-len2.len_at_least, c.in-len2.len_below)) c.lo-item.is c.hi-item.is)
    (rw (c.deref.ensures.value, c.deref-in-len2.ensures.value) at c.read_numbers.ensures)
