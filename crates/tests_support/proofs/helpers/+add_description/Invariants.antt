use Rattle.tests_support.proofs.helpers.+add_description.Given as goal

abbrev pub decreases-add_description : goal.decreases-add_description
decreases-add_description l = l.room
