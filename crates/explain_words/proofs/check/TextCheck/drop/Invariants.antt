use Rattle.explain_words.specs.Weight.{weight}
use Rattle.explain_words.proofs.check.TextCheck.drop.Given as goal

abbrev pub decreases-loop-self : goal.decreases-loop-self
decreases-loop-self l = weight l.self
