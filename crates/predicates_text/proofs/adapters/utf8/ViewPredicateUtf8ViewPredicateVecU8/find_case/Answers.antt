use Rattle.std.proofs.Common.{rules}
use Rattle.predicates_text.proofs.AdapterAnswers.{IsCaseOf-decoded}
use Rattle.predicates_text.proofs.adapters.utf8.ViewPredicateUtf8ViewPredicateVecU8.find_case.Goals as goal

pub returns : goal.returns
returns g c = IsCaseOf-decoded c.in-Some.text (search rules) c.in_ok-showing.ensures (search rules)
