use Rattle.std.proofs.lemmas.Result.{IfOk-weaker}
use Rattle.vet_program.proofs.Untold.{other_text}
use Rattle.vet_program.proofs.words.text_of.Goals as goal

pub returns-in-Err : goal.returns-in-Err
returns-in-Err c = IfOk-weaker c.marked.result _ _ (λ text m. other_text _ _ m.0 m.1 c.in-Err.ensures.cases.0) c.marked.ensures
