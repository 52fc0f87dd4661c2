use Rattle.std.proofs.Common.{refl}
use Rattle.std.specs.Int.{w64}
use Rattle.std.proofs.lemmas.Int.{to_z-of_z}
use Rattle.std.proofs.lemmas.Result.{err_from_is_err_and}
use Rattle.explain_run.specs.Answers.{between_formula, IsNumber, IsNumberAnswer}
use Rattle.explain_run.proofs.Progress.{has_run, run_until}
use Rattle.explain_run.proofs.between.run_between.Goals as goal

pub returns-clause-run : goal.returns-clause-run
returns-clause-run g c = has_run (IsNumberAnswer (between_formula c.args.lo c.args.hi)) IsNumber
    (rw (c.and-between.ensures.left, c.and-between.ensures.right, c.ge.ensures.made, c.le.ensures.made, to_z-of_z w64 c.args.lo c.ranges.lo, to_z-of_z w64 c.args.hi c.ranges.hi)
    at c.in_ok-counts.ensures.run) c.is_of_items.ensures

pub returns-clause-formula : goal.returns-clause-formula
returns-clause-formula g c both n lower upper = rw (lower, upper) refl

pub returns-in_err-counts-clause-fault : goal.returns-in_err-counts-clause-fault
returns-in_err-counts-clause-fault g c =
    let p = err_from_is_err_and c.from_residual.result c.from_residual.ensures.1 in
    rw (p.1, p.2) (run_until (IsNumberAnswer (between_formula c.args.lo c.args.hi)) IsNumber
    (rw (c.and-between.ensures.left, c.and-between.ensures.right, c.ge.ensures.made, c.le.ensures.made, to_z-of_z w64 c.args.lo c.ranges.lo, to_z-of_z w64 c.args.hi c.ranges.hi)
    at c.in_err-counts.ensures.fault))

pub returns-in_err-counts-clause-formula : goal.returns-in_err-counts-clause-formula
returns-in_err-counts-clause-formula g c both n lower upper = rw (lower, upper) refl
