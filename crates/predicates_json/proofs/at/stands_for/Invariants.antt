use Rattle.std.proofs.Common.{◌≡◌, length, bytes_eq}
use Rattle.serde_json.specs.Find.{unescape}
use Rattle.predicates_json.proofs.at.stands_for.Given as goal

abbrev pub invariant-bytes : goal.invariant-bytes
invariant-bytes l = bytes_eq (unescape l.fn.part) l.fn.name ≡ bytes_eq (unescape l.part) l.name

abbrev pub decreases-bytes : goal.decreases-bytes
decreases-bytes l = length l.part
