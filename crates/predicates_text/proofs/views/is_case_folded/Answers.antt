use Rattle.std.proofs.Common.{rules, tests}
use Rattle.std.specs.Str.{chars}
use Rattle.std.proofs.lemmas.Iterator.{YieldsList-from_chars}
use Rattle.std.proofs.lemmas.Iterator.Search.{all_from_yields_List}
use Rattle.predicates_text.proofs.CaseFolding.{has_none, own_decides}
use Rattle.predicates_text.proofs.views.is_case_folded.Goals as goal

pub returns : goal.returns
returns c =
    own_decides (chars c.args.text.now) c.all.result
    (all_from_yields_List has_none _ _ c.all.result c.all.ensures.ran (YieldsList-from_chars c.args.text.now c.utf8.text cc) (λ x b q k. search (rules, tests)))
