use Rattle.std.proofs.Common.{ap, Ok, Option}
use Rattle.vet_rules.specs.Literals.{Literal}
use Rattle.vet_rules.proofs.Lexed.{literal_no_text, literal_read}
use Rattle.vet_rules.proofs.lexer.literal.Goals as goal

pub returns-in_default : goal.returns-in_default
returns-in_default c = ap (λ (o : Option Literal). Ok o) (literal_no_text c.args.word.now c.in_default.ensures.cases.0)

pub returns-in_ok-literal_of-in-Ok-from_str : goal.returns-in_ok-literal_of-in-Ok-from_str
returns-in_ok-literal_of-in-Ok-from_str c = ap (λ (o : Option Literal). Ok o) (literal_read c.args.word.now c.in-Ok.text.now _ _ c.in-Ok.ensures.cases.1 c.in-Ok.ensures.cases.0 c.in-Ok-from_str.ensures.ok c.in_ok-literal_of-in-Ok-from_str.ensures)
