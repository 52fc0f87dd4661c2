use Rattle.predicates_text.proofs.Found.{ends_chars}
use Rattle.predicates_text.specs.PlaceLaws.{back_decides, same_test}
use Rattle.predicates_text.proofs.search.ends_with.Goals as goal

pub returns : goal.returns
returns c =
    let is = ends_chars c.args.pattern.now c.args.text.now c.ends_with.result c.utf8.pattern c.utf8.text c.ends_with.ensures.cases in
    record { back = is; value = same_test _ _ is (back_decides _ _) }
