use Rattle.predicates_core.proofs.Found.{case_by_result, found_false}
use Rattle.predicates_core.proofs.predicate.Predicate.explain.Goals as goal

pub returns-in-Some-2 : goal.returns-in-Some-2
returns-in-Some-2 g c = rw c.in-None.is (case_by_result (rw c.in-Some-2.is at c.in_ok-case-in-None.ensures))

pub returns-in_ok-found-in-None-2 : goal.returns-in_ok-found-in-None-2
returns-in_ok-found-in-None-2 g c = rw c.in-None.is (found_false c.in_ok-found-in-None-2.found (rw c.in-None-2.is at c.in_ok-case-in-None.ensures) c.in_ok-found-in-None-2.ensures)
