use Rattle.std.proofs.Common.{◌+◌, ◌*◌}
use Rattle.explain_words.specs.Weight.{weight}
use Rattle.explain_words.proofs.check.+text.Given as goal

abbrev pub decreases-TextCheckDisplay::fmt : goal.decreases-TextCheckDisplay::fmt
decreases-TextCheckDisplay::fmt g l = 2 * weight l.self.now

abbrev pub decreases-TextCheck::fmt_joined : goal.decreases-TextCheck::fmt_joined
decreases-TextCheck::fmt_joined g l = 2 * (weight l.left.now + weight l.right.now) + 1
