use Rattle.explain_run.proofs.Filtering.{untold}
use Rattle.explain_run.proofs.filter.filter_lines.Goals as goal

pub returns-clause-fault : goal.returns-clause-fault
returns-clause-fault g c = untold _ _ _ _ _ _ _ _ _ c.run_lines.result c.run_lines.ensures.fault
