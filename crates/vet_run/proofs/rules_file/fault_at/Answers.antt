use Rattle.std.proofs.Common.{inl, refl}
use Rattle.vet_run.proofs.rules_file.fault_at.Goals as goal

pub returns-in-Some : goal.returns-in-Some
returns-in-Some c = inl (c.in-Some.fault, c.in-Some.ensures, refl)
