use Rattle.std.proofs.Common.{ap, Ok, ◌∙◌}
use Rattle.std.specs.Prelude.{◌==◌, ◌||◌}
use Rattle.tests_uses.proofs.BothEvaluated.{either_truth, less_is}
use Rattle.tests_uses.proofs.right_first.is_known.Goals as goal

pub returns : goal.returns
returns c =
    either_truth _ _ _ _ _ c.eval.result (c.eval.ensures.infallible (tt, tt)) (rw (c.new.ensures.right, c.lt.ensures.made) at c.eval.ensures.truth)
    ∙ ap (λ b. Ok (c.args.number.now == 42 || b)) (less_is c.args.number.now 10)
