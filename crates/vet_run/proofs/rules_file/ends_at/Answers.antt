use Rattle.std.proofs.Common.{refl, sym, ap, ◌∙◌, arith}
use Rattle.std.proofs.lemmas.Bool.Decides.{nat_tests}
use Rattle.std.proofs.lemmas.Bool.{eqb-true}
use Rattle.vet_run.proofs.Rejecting.{last_split, same_last}
use Rattle.vet_run.proofs.rules_file.ends_at.Goals as goal

pub returns-in-Some : goal.returns-in-Some
returns-in-Some c =
    let s = last_split c.args.faults.now _ c.in-Some.fault.now refl c.in-Some.ensures.value in (
      λ yes. (s.0, c.in-Some.fault.now, s.1, eqb-true c.in-Some.fault.now.line c.args.number yes),
      λ h. let same = same_last s.0 h.0 c.in-Some.fault.now h.1 (sym s.1 ∙ h.2) in let line = ap (λ z. z.line) same ∙ h.3 in grind (arith, nat_tests, line),
    )
