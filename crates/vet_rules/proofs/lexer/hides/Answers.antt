use Rattle.std.proofs.Common.{rules, tests}
use Rattle.std.proofs.lemmas.Iterator.{YieldsList-from_chars}
use Rattle.std.proofs.lemmas.Iterator.Search.{any_from_yields_List}
use Rattle.vet_rules.specs.Lexemes.{is_hidden}
use Rattle.vet_rules.proofs.lexer.hides.Goals as goal

pub returns : goal.returns
returns c = any_from_yields_List is_hidden _ _ c.any.result c.any.ensures.ran (YieldsList-from_chars c.args.text.now c.utf8.text cc) (λ x b q k. search (rules, tests))
