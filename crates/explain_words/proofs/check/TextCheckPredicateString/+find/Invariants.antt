use Rattle.explain_words.specs.Weight.{weight}
use Rattle.explain_words.proofs.check.TextCheckPredicateString.+find.Given as goal

abbrev pub decreases-find_case : goal.decreases-find_case
decreases-find_case l = weight l.self.now
