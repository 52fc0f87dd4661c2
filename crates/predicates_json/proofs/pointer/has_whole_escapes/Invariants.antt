use Rattle.std.proofs.Common.{◌≡◌, false, drop}
use Rattle.predicates_json.specs.PointerText.{has_whole_escapes}
use Rattle.predicates_json.proofs.pointer.has_whole_escapes.Given as goal

abbrev pub invariant-loop-byte : goal.invariant-loop-byte
invariant-loop-byte l = has_whole_escapes false l.fn.bytes ≡ has_whole_escapes l.behind_tilde (drop l.byte-index l.bytes)
