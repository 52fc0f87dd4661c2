use Rattle.tests_support.proofs.text_reference.+formula_of_words.Given as goal

abbrev pub decreases-formula_of_words : goal.decreases-formula_of_words
decreases-formula_of_words l = l.room
