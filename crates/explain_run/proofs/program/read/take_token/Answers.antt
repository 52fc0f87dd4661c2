use Rattle.std.proofs.Common.{rules}
use Rattle.explain_run.specs.CommandLine.{no_word}
use Rattle.explain_run.proofs.CommandLine.{no_token}
use Rattle.explain_run.proofs.program.read.take_token.Goals as goal

pub returns-in_default-clause-fault : goal.returns-in_default-clause-fault
returns-in_default-clause-fault c = no_word (search rules, no_token c.args.token.now c.in_default.ensures.cases.0)
