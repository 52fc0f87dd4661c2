use Rattle.std.proofs.Common.{refl, sym, ◌∙◌, true≢false}
use Rattle.vet_run.proofs.rules_file.take_of.Goals as goal

pub returns-else-ends_at : goal.returns-else-ends_at
returns-else-ends_at c = (refl, λ fs f is line. true≢false (sym (c.ends_at.ensures.1 (fs, f, c.deref.ensures.value ∙ is, line)) ∙ c.if-ends_at.false))
