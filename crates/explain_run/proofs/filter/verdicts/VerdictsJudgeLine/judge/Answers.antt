use Rattle.std.proofs.Common.{◌∙◌}
use Rattle.explain_run.proofs.filter.verdicts.VerdictsJudgeLine.judge.Goals as goal

pub returns-in_ok-eval-in-Ok-clause-verdict : goal.returns-in_ok-eval-in-Ok-clause-verdict
returns-in_ok-eval-in-Ok-clause-verdict g c =
    (c.set_item.new.item, c.in_ok-set_item-in-Ok.ensures ∙ c.in-Ok.ensures.cases.0 ∙ c.drop_last.ensures, c.in_ok-eval-in-Ok.ensures.truth)
