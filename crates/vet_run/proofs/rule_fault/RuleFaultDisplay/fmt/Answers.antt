use Rattle.std.proofs.Common.{rules}
use Rattle.vet_run.specs.RuleFaults.{rule_fault_text}
use Rattle.vet_run.proofs.rule_fault.RuleFaultDisplay.fmt.Goals as goal

-- src/rule_fault.rt:29:5
pub returns-in-Pattern-clause-writes : goal.returns-in-Pattern-clause-writes
returns-in-Pattern-clause-writes g c =
    rw (c.in-Pattern.is, ← c.as_bytes.ensures.value, ← c.as_bytes-in-Pattern.ensures.value)
    c.write-in-Pattern.ensures.writes
