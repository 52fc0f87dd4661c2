use Rattle.std.proofs.Common.{◌≡◌, ◌↔◌, [], IsTrue, arith}
use Rattle.std.specs.Str.{chars}
use Rattle.predicates_text.proofs.Found.{empty_chars}
use Rattle.predicates_text.specs.PlaceLaws.{empty_decides, same_test}
use Rattle.predicates_text.proofs.search.is_empty.Goals as goal

pub returns : goal.returns
returns c =
    let is : IsTrue c.is_empty.result ↔ (chars c.args.text.now ≡ []) = grind (arith, empty_chars c.args.text.now c.utf8.text) in
    record { empty = is; value = same_test _ _ is (empty_decides _) }
