use Rattle.std.proofs.Common.{sym}
use Rattle.vet_rules.proofs.Lexed.{end_goes}
use Rattle.vet_rules.proofs.lexer.quoted_len.Goals as goal

pub loop-i-preserved : goal.loop-i-preserved
loop-i-preserved c = end_goes c.args.text.now c.loop-i.i c.loop-i.escaped c.escapes-escaped.result _ c.loop-i-test.true (sym c.if-closes.ensures) c.escapes-escaped.ensures c.loop-i.invariant
