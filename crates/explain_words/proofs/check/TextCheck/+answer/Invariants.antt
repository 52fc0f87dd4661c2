use Rattle.std.proofs.Common.{◌+◌, ◌*◌}
use Rattle.explain_words.specs.Weight.{weight}
use Rattle.explain_words.proofs.check.TextCheck.+answer.Given as goal

abbrev pub decreases-answer_into : goal.decreases-answer_into
decreases-answer_into l = 4 * weight l.self.now

abbrev pub decreases-answer_not : goal.decreases-answer_not
decreases-answer_not l = 4 * weight l.inner.now + 2

abbrev pub decreases-answer_right : goal.decreases-answer_right
decreases-answer_right l = 4 * weight l.self.now + 1

abbrev pub decreases-answer_join : goal.decreases-answer_join
decreases-answer_join l = 4 * (weight l.parts.left.now + weight l.parts.right.now) + 2
