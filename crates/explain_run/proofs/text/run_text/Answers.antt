use Rattle.std.specs.Str.{IsUtf8}
use Rattle.std.proofs.lemmas.Result.{err_from_is_err_and}
use Rattle.explain_run.proofs.Progress.{has_run, run_until}
use Rattle.explain_run.proofs.text.run_text.Goals as goal

pub returns-in_err-counts-clause-fault : goal.returns-in_err-counts-clause-fault
returns-in_err-counts-clause-fault g c =
    let p = err_from_is_err_and c.from_residual.result c.from_residual.ensures.1 in
    rw (p.1, p.2) (run_until _ IsUtf8 c.in_err-counts.ensures.fault)

pub returns-clause-run : goal.returns-clause-run
returns-clause-run g c = has_run _ _ c.in_ok-counts.ensures.run c.is_of_items.ensures
