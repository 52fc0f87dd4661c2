use Rattle.std.proofs.Common.{refl}
use Rattle.vet_checks.specs.Checks.{tree_of_check}
use Rattle.vet_run.proofs.rules_file.pattern_fault.Goals as goal

pub returns-in-Ok : goal.returns-in-Ok
returns-in-Ok c = (tree_of_check c.in-Ok._check, c.in-Ok.ensures.compiled)

pub returns-in-Err-Pattern : goal.returns-in-Err-Pattern
returns-in-Err-Pattern c =
    let p = rw c.in-Err-Pattern.field-0-is at c.in-Err-Pattern.ensures.refused in
    (refl, refl, p.0, p.1)
