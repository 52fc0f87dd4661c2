use Rattle.streams.proofs.Taking.{took_none}
use Rattle.streams.proofs.records.read.take_part.Goals as goal

pub returns-in-Err-clause-part : goal.returns-in-Err-clause-part
returns-in-Err-clause-part g c = took_none _ _ _ _ _ _ c.fill_buf.follows.holds-at-none.0 c.classify.ensures.part
