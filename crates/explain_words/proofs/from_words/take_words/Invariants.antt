use Rattle.std.proofs.Common.{[], take}
use Rattle.explain_words.specs.Depths.{AreTracked}
use Rattle.explain_words.specs.Postfix.{written, Makes}
use Rattle.explain_words.proofs.from_words.take_words.Given as goal

abbrev pub invariant-loop-index : goal.invariant-loop-index
invariant-loop-index l = Makes (written (take l.index l.words)) [] l.checks.items × AreTracked l.checks.items l.depths.items
