use Rattle.std.proofs.Common.{string_bytes, bytes_eq, sym, ap, ◌∙◌, arith, true≢false}
use Rattle.std.specs.Map.{lookup}
use Rattle.std.proofs.lemmas.Str.Pattern.{contains_char}
use Rattle.serde_json.proofs.Paths.{unescape_plain}
use Rattle.predicates_json.proofs.Steps.{lookup-by_order}
use Rattle.predicates_json.proofs.at.member.Goals as goal

pub returns-then-not-contains : goal.returns-then-not-contains
returns-then-not-contains c =
    let part = c.args.part.now in
    let found = contains_char 126 part c.contains.result c.contains.ensures.cases (omega arith) in
    let same = unescape_plain part (λ i less e. true≢false (sym (found.1 i less e) ∙ c.if-not-contains.true)) in
    c.get.ensures.value ∙ lookup-by_order part c.args.members.now.entries ∙ ap (λ name. lookup (λ k. bytes_eq name (string_bytes k)) c.args.members.now.entries) (sym same)
