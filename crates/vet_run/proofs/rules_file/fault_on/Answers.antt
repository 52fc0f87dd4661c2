use Rattle.std.proofs.Common.{arith, None}
use Rattle.vet_run.proofs.Rejecting.{told_of_one, told_of_none, told_of_no_rules}
use Rattle.vet_run.proofs.rules_file.fault_on.Goals as goal

pub returns-in-Some : goal.returns-in-Some
returns-in-Some c = told_of_one c.args.number c.args.line.now c.in-Ok.rules.items c.pop.new.self.items c.in-Some.rule c.pattern_fault.result c.in-Ok.ensures.only c.in-Some.ensures.items c.pattern_fault.ensures

pub returns-in-Ok : goal.returns-in-Ok
returns-in-Ok c = told_of_none c.args.number c.args.line.now c.in-Ok.rules.items c.in-Ok.ensures.only (omega (arith, c.in-None.ensures.cases.0))

pub returns : goal.returns
returns c =
    let only = rw c.in-Err-Unreadable.field-0-is at c.in-Err-Unreadable.ensures.only in
    told_of_no_rules c.args.number c.args.line.now None only
