use Rattle.explain_run.proofs.Numerals.{reads_from_parse, some_from_ok, text_from_reads}
use Rattle.explain_run.proofs.parse_number.number.Goals as goal

pub returns-in-Ok : goal.returns-in-Ok
returns-in-Ok c n =
    let read = reads_from_parse _ c.parse.result c.parse.ensures.value.0 n in
    rw (c.ok.ensures.value, ← c.in-Ok.ensures.cases.0) (some_from_ok c.parse.result n read)

pub returns-in-Err : goal.returns-in-Err
returns-in-Err c n = (λ e. absurd (cc), λ reads. absurd (c.in-Err.ensures.cases.0 (text_from_reads _ n reads)))
