use Rattle.std.proofs.Common.{[], take}
use Rattle.explain_run.specs.CommandLine.{typed}
use Rattle.explain_words.specs.Depths.{AreTracked}
use Rattle.explain_words.specs.Postfix.{Makes}
use Rattle.explain_run.proofs.program.read.read_checks.Given as goal

abbrev pub invariant-loop-token : goal.invariant-loop-token
invariant-loop-token l = Makes (typed (take l.token-index l.tokens)) [] l.checks.items × AreTracked l.checks.items l.depths.items
