use Rattle.std.proofs.Common.{sym, ◌∙◌}
use Rattle.vet_run.proofs.Running.{no_record_on, record_read}
use Rattle.vet_run.proofs.line.read_record.Goals as goal

pub returns-in_ok-found-in-Ok : goal.returns-in_ok-found-in-Ok
returns-in_ok-found-in-Ok c = c.in_ok-found-in-Ok.ensures ∙ sym (record_read c.args.line.now c.in-Ok.source.now c.in-Ok.ensures.cases.0 c.in-Ok.ensures.cases.1)

pub returns-in_ok-push_str-in-Err : goal.returns-in_ok-push_str-in-Err
returns-in_ok-push_str-in-Err c = sym (no_record_on c.args.line.now c.in-Err.ensures.cases.0)
