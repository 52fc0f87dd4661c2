use Rattle.std.proofs.Common.{◌≡◌, ◌∙◌, Bool, true, false, not, Some, refl}
use Rattle.explain_run.specs.TextAnswers.{text}
use Rattle.explain_run.specs.Filtered.{is_wanted, rejected}
use Rattle.explain_run.proofs.BlockLemmas.{block_of_case}
use Rattle.explain_run.proofs.filter.reasons.ReasonsJudgeLine.judge.Goals as goal

other : (wanted : Bool) → is_wanted wanted (Some (not wanted)) ≡ false
other true = refl
other false = refl

twice : (wanted : Bool) → not (not wanted) ≡ wanted
twice true = refl
twice false = refl

pub returns-in_ok-write_block-in-Some-clause-verdict : goal.returns-in_ok-write_block-in-Some-clause-verdict
returns-in_ok-write_block-in-Some-clause-verdict g c =
    let found = rw c.in-Some.is at c.in_ok-case.ensures in
    (c.set_item.new.item, c.in_ok-set_item.ensures ∙ c.in-Ok.ensures.cases.0 ∙ c.drop_last.ensures, found.truth)

pub returns-in_ok-write_block-in-Some-clause-told : goal.returns-in_ok-write_block-in-Some-clause-told
returns-in_ok-write_block-in-Some-clause-told g c =
    let found = rw c.in-Some.is at c.in_ok-case.ensures in
    rejected (other c.args.self.now.wanted)
    (text c.set_item.new.item (c.in_ok-set_item.ensures ∙ c.in-Ok.ensures.cases.0 ∙ c.drop_last.ensures)
    (block_of_case c.in-Some.case found c.in_ok-write_block-in-Some.ensures))

pub returns-in-None-clause-verdict : goal.returns-in-None-clause-verdict
returns-in-None-clause-verdict g c =
    let found = rw (c.in-None.is, twice c.args.self.now.wanted) at c.in_ok-case.ensures in
    (c.set_item.new.item, c.in_ok-set_item.ensures ∙ c.in-Ok.ensures.cases.0 ∙ c.drop_last.ensures, found)
