use Rattle.std.proofs.Common.{rules}
use Rattle.std.specs.Int.{w64}
use Rattle.std.proofs.lemmas.Int.{to_z-of_z}
use Rattle.explain_run.specs.Answers.{item, no_item}
use Rattle.explain_run.proofs.CommandLine.{found, not_found}
use Rattle.explain_run.proofs.between.NumbersJudgeLine.judge.Goals as goal

pub returns-in_ok-complete_block-in-Some-clause-told : goal.returns-in_ok-complete_block-in-Some-clause-told
returns-in_ok-complete_block-in-Some-clause-told g c =
    let reads = rw (c.drop_last.ensures, c.drop_last-bare.ensures) at (found _ _ _ c.number.ensures c.in-Some.is) in
    let number = to_z-of_z w64 c.in-Some.n reads.fits in
    let blocks = rw (c.in_ok-write_number-in-Some.ensures, number) at c.in_ok-complete_block-in-Some.ensures in
    item c.in-Some.n reads (blocks.each (g.P.Total.formula_of c.args.self.now.predicate.now c.in-Some.n) (search rules))

pub returns-in_ok-complete_block-in-Some-clause-verdict : goal.returns-in_ok-complete_block-in-Some-clause-verdict
returns-in_ok-complete_block-in-Some-clause-verdict g c =
    (c.in-Some.n, rw (c.drop_last.ensures, c.drop_last-bare.ensures) at (found _ _ _ c.number.ensures c.in-Some.is))

pub returns-in_ok-write_no_number-in-None-clause-told : goal.returns-in_ok-write_no_number-in-None-clause-told
returns-in_ok-write_no_number-in-None-clause-told g c =
    no_item (rw (c.drop_last.ensures, c.drop_last-bare.ensures) at (not_found _ _ c.number.ensures c.in-None.is)) c.in_ok-write_no_number-in-None.ensures

pub returns-in_ok-write_no_number-in-None-clause-verdict : goal.returns-in_ok-write_no_number-in-None-clause-verdict
returns-in_ok-write_no_number-in-None-clause-verdict g c is_item =
    (rw (c.drop_last.ensures, c.drop_last-bare.ensures) at (not_found _ _ c.number.ensures c.in-None.is)) is_item.0 is_item.1
