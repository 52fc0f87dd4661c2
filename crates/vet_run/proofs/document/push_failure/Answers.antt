use Rattle.vet_run.specs.JUnit.{failure_text}
use Rattle.vet_run.proofs.Documents.{five}
use Rattle.vet_run.proofs.document.push_failure.Goals as goal

pub returns : goal.returns
unfolding failure_text
returns c = five _ _ _ _ _ _ _ _ _ _ _ c.in_ok-push_bytes.ensures c.in_ok-push_breaks.ensures c.in_ok-push_bytes-2.ensures c.in_ok-push_xml.ensures c.in_ok-push_bytes-3.ensures
