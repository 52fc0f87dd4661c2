use Rattle.vet_rules.proofs.Files.{nothing_added, line_fault, fault_added}
use Rattle.vet_rules.proofs.findings.with_line.Goals as goal

pub returns-in-Ok-None : goal.returns-in-Ok-None
returns-in-Ok-None c =
    let line = rw c.in-Ok-None.field-0-is at c.in-Ok-None.ensures.found in
    nothing_added c.args.number c.args.line.now c.args.findings line

pub returns-in_ok-fault-in-Err-Stopped : goal.returns-in_ok-fault-in-Err-Stopped
returns-in_ok-fault-in-Err-Stopped c =
    let only = rw c.in-Err-Stopped.field-0-is at c.in-Err-Stopped.ensures.only in
    let never = rw c.in-Err-Stopped.field-0-is at c.in-Err-Stopped.ensures.never in
    let fault = rw c.in-Err-Stopped.field-0-is at c.in-Err-Stopped.ensures.fault in
    fault_added c.args.number c.args.line.now c.args.findings c.in_ok-fault-in-Err-Stopped.fault c.with_fault.result
    (line_fault c.args.number c.args.line.now c.in-Err-Stopped.stop c.in_ok-fault-in-Err-Stopped.fault only never fault c.in_ok-fault-in-Err-Stopped.ensures) c.with_fault.ensures
