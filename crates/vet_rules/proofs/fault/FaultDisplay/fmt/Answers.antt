use Rattle.std.proofs.Common.{Some, Ok, ◌++◌, refl}
use Rattle.std.proofs.Output.{displays_on_IsOk_append}
use Rattle.vet_rules.specs.Messages.{place_text, why_text, meant_text}
use Rattle.vet_rules.proofs.fault.FaultDisplay.fmt.Goals as goal

pub returns-clause-writes : goal.returns-clause-writes
returns-clause-writes g c =
    let took = g.W.Write.write_str_gives in
    let fault = c.args.self.now in
    let why = why_text fault.reason fault.found.items in
    let meant = meant_text fault.hint in
    displays_on_IsOk_append took c.args.f.now c.write.new.self c.fmt_meant.new.f (Ok tt) c.fmt_meant.result
    (Some (place_text fault.line fault.column)) (Some (why ++ meant)) (λ ok. refl) c.in_ok-write.ensures.writes
    (displays_on_IsOk_append took c.write.new.self c.fmt_why.new.f c.fmt_meant.new.f (Ok tt) c.fmt_meant.result (Some why) (Some meant) (λ ok. refl)
    (rw c.deref.ensures.value at c.in_ok-fmt_why.ensures) c.fmt_meant.ensures)
