use Rattle.std.proofs.Common.{◌∙◌}
use Rattle.explain_run.specs.TextAnswers.{text}
use Rattle.explain_run.proofs.text.TextsJudgeLine.judge.Goals as goal

pub returns-in_ok-complete_block-in-Ok-clause-told : goal.returns-in_ok-complete_block-in-Ok-clause-told
returns-in_ok-complete_block-in-Ok-clause-told g c =
    text c.set_item.new.item (c.in_ok-set_item-in-Ok.ensures ∙ c.in-Ok.ensures.cases.0 ∙ c.drop_last.ensures)
    (rw c.in_ok-write_label-in-Ok.ensures at c.in_ok-complete_block-in-Ok.ensures)
