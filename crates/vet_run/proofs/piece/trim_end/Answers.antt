use Rattle.std.proofs.Common.{◌≡◌, ◌∙◌, true, false, ap, sym, rules}
use Rattle.vet_run.specs.InputLines.{is_white}
use Rattle.vet_run.specs.Pieces.{trimmed}
use Rattle.vet_run.proofs.Trimming.{trimmed_white, trimmed_solid}
use Rattle.vet_run.proofs.piece.trim_end.Goals as goal

pub returns-then-not-is_white : goal.returns-then-not-is_white
returns-then-not-is_white c =
    let solid : is_white c.in-Some.byte ≡ false = search rules in
    c.in_ok-push.ensures.items ∙ sym (trimmed_solid c.pop.new.self.items c.in-Some.byte solid)
    ∙ sym (c.loop-byte.invariant ∙ ap trimmed c.in-Some.ensures.items)

pub loop-byte-preserved : goal.loop-byte-preserved
loop-byte-preserved c =
    let white : is_white c.in-Some.byte ≡ true = search rules in
    c.loop-byte.invariant ∙ ap trimmed c.in-Some.ensures.items ∙ trimmed_white c.pop.new.self.items c.in-Some.byte white
