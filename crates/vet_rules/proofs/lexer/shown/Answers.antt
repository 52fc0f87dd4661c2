use Rattle.std.proofs.Common.{sym, ◌∙◌}
use Rattle.vet_rules.proofs.Lexed.{text_shows, no_text_shows}
use Rattle.vet_rules.proofs.lexer.shown.Goals as goal

pub returns-else-hides : goal.returns-else-hides
returns-else-hides c = record {
  cases = (c.in-Ok.ensures.cases.0, text_shows c.args.bytes.now c.in-Ok.text.now c.in-Ok.ensures.cases.1 c.in-Ok.ensures.cases.0 (sym c.hides.ensures ∙ c.if-hides.false));
}

pub returns-in-Err : goal.returns-in-Err
returns-in-Err c = record {
  cases = no_text_shows c.args.bytes.now c.in-Err.ensures.cases.0;
}
