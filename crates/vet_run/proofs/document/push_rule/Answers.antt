use Rattle.vet_run.specs.JUnit.{rule_text}
use Rattle.vet_run.proofs.Documents.{four}
use Rattle.vet_run.proofs.document.push_rule.Goals as goal

pub returns : goal.returns
unfolding rule_text
returns c = four _ _ _ _ _ _ _ _ _ c.in_ok-push_bytes.ensures c.in_ok-push_xml.ensures c.in_ok-push_bytes-2.ensures c.in_ok-push_content.ensures
