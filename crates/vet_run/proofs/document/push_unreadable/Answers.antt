use Rattle.vet_run.specs.JUnit.{unreadable_text}
use Rattle.vet_run.proofs.Documents.{three}
use Rattle.vet_run.proofs.document.push_unreadable.Goals as goal

pub returns : goal.returns
unfolding unreadable_text
returns c = three _ _ _ _ _ _ _ c.in_ok-push_bytes.ensures c.in_ok-push_number.ensures c.in_ok-push_bytes-2.ensures
