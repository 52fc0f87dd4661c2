use Rattle.tests_checks.proofs.tests.checks.+build.Given as goal

abbrev pub decreases-build : goal.decreases-build
decreases-build g l = l.depth
