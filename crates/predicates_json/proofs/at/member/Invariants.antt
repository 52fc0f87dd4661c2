use Rattle.std.proofs.Common.{◌≡◌, string_bytes, bytes_eq}
use Rattle.std.specs.Map.{lookup}
use Rattle.serde_json.specs.Find.{unescape}
use Rattle.predicates_json.proofs.at.member.Given as goal

abbrev pub invariant-loop-name : goal.invariant-loop-name
invariant-loop-name l = lookup (λ k. bytes_eq (unescape l.part) (string_bytes k)) l.fn.members.entries ≡ lookup (λ k. bytes_eq (unescape l.part) (string_bytes k)) l.name-iterator
