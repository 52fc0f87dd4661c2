use Rattle.std.proofs.Common.{arith}
use Rattle.explain_run.specs.CommandLine.{checks}
use Rattle.explain_run.proofs.program.read.read_check.Goals as goal

pub returns-then-not-is_one-clause-fault : goal.returns-then-not-is_one-clause-fault
returns-then-not-is_one-clause-fault c =
    checks c.len.result (
      c.in_ok-stack.stack.items,
      c.in_ok-stack.ensures.made,
      c.in_ok-stack.ensures.within,
      omega (arith, c.len.ensures, c.in_ok-stack.stack.ok.0),
      (λ one. let yes = c.is_one.ensures.1 one in absurd (cc)),
    )
