-- The tests that leaves are made of.
use Rattle.predicates_core.specs.declared.custom.detailed_test.DetailedPredicate.{DetailedPredicate}
use Rattle.predicates_core.specs.declared.custom.test_predicate.TestPredicate.{TestPredicate}

module _ {T : Type 0} where
  abbrev pub test_of : TestPredicate T → T
  test_of p = p.test

  abbrev pub detailed_test_of : DetailedPredicate T → T
  detailed_test_of p = p.test
