use Rattle.std.proofs.Common.{string_bytes}
use Rattle.predicates_text.proofs.Verdicts.{verdict_of_leaf}
use Rattle.predicates_text.proofs.text_test.TextTestPredicatePredicateString.eval.Goals as goal

pub returns-clause-truth : goal.returns-clause-truth
returns-clause-truth g c =
    let is_leaf = g.met.T.TextTest.is_leaf c.args.self.now.test (string_bytes c.args.item.now) in
    verdict_of_leaf c.holds.result is_leaf (rw c.deref.ensures at c.holds.ensures.truth)
