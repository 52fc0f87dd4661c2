use Rattle.std.proofs.Common.{ap, option_copied}
use Rattle.predicates_core.specs.Kinds.{changes}
use Rattle.predicates_core.proofs.PresentCases.{found_present, none_absent, case_absent}
use Rattle.predicates_core.proofs.custom.present.present_change.Goals as goal

pub returns-in-Some : goal.returns-in-Some
returns-in-Some g c = found_present changes _ _ _ _ c.args.wanted c.find_change.result (ap option_copied c.in-Some.is) c.find_change.ensures

pub returns-in-None : goal.returns-in-None
returns-in-None g c = none_absent changes _ _ _ _ c.args.wanted (ap option_copied c.in-None.is) (rw (← c.is_other.ensures) c.if-is_other.true)

pub returns-in_ok-absent_case-in-None-2 : goal.returns-in_ok-absent_case-in-None-2
returns-in_ok-absent_case-in-None-2 g c = case_absent changes _ _ _ _ c.args.wanted (ap option_copied c.in-None.is) (rw (← c.is_other.ensures) c.if-is_other.false) c.in_ok-absent_case-in-None-2.ensures
