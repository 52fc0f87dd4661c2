use Rattle.vet_run.specs.JUnit.{head_text}
use Rattle.vet_run.proofs.Documents.{four}
use Rattle.vet_run.proofs.document.push_head.Goals as goal

pub returns : goal.returns
unfolding head_text
returns c = four _ _ _ _ _ _ _ _ _ c.in_ok-push_bytes.ensures c.in_ok-push_xml.ensures c.in_ok-push_bytes-2.ensures c.in_ok-push_totals.ensures
