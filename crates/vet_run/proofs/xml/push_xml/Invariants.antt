use Rattle.std.proofs.Common.{◌≡◌, ◌++◌, drop}
use Rattle.vet_run.specs.Xml.{xml_behind, xml_text}
use Rattle.vet_run.proofs.xml.push_xml.Given as goal

abbrev pub invariant-loop-byte : goal.invariant-loop-byte
invariant-loop-byte l = l.bytes.items ++ xml_behind l.first l.second (drop l.byte-index l.text) ≡ l.initial.bytes.items ++ xml_text l.text
