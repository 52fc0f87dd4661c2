use Rattle.predicates_core.specs.Kinds.{reasons}
use Rattle.predicates_text.proofs.AdapterAnswers.{none_decoded, case_decoded, none_undecoded, case_undecoded}
use Rattle.predicates_text.proofs.adapters.utf8.ViewPredicateUtf8ViewPredicateVecU8.explain.Goals as goal

pub returns-then-is_other : goal.returns-then-is_other
returns-then-is_other g c = none_undecoded reasons _ _ _ c.args.wanted (rw c.in_default.is at c.in_ok-text.ensures.text) (rw (← c.is_other.ensures) c.if-is_other.true)

pub returns-in_default : goal.returns-in_default
returns-in_default g c = case_undecoded reasons _ _ _ c.args.wanted (rw c.in_default.is at c.in_ok-text.ensures.text) (rw (← c.is_other.ensures) c.if-is_other.false) c.in_ok-undecoded_case.ensures

pub returns-in_default-2 : goal.returns-in_default-2
returns-in_default-2 g c = none_decoded reasons _ _ _ c.args.wanted c.in-Some.text (rw c.in-Some.is at c.in_ok-text.ensures.text) (rw c.in_default-2.is at c.in_ok-case.ensures)

pub returns : goal.returns
returns g c = case_decoded reasons _ _ _ c.args.wanted c.in-Some.text (rw c.in-Some.is at c.in_ok-text.ensures.text) c.in_ok-case-2.ensures (rw c.in-Some-2.is at c.in_ok-case.ensures)
