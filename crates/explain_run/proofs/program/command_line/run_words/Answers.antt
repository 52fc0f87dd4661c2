use Rattle.std.proofs.Common.{arith, codes, refl}
use Rattle.std.specs.Int.{w64}
use Rattle.std.proofs.lemmas.Int.{to_z-of_z}
use Rattle.explain_run.specs.CommandLine.{typed, wrong_bounds}
use Rattle.explain_run.proofs.Ending.{others_of, first_word, ends_between, ends_text, ends_by_fault}
use Rattle.explain_run.proofs.program.command_line.run_words.Goals as goal

pub returns-in-Some : goal.returns-in-Some
returns-in-Some g c =
    let first = first_word c.args.words.now c.name-item.result (codes "between") (omega (arith, c.in-len1-up.len_at_least)) c.name-item.is (c.is_name.ensures.0 c.if-is_name.true) in
    let lo = to_z-of_z w64 c.in-Some.lo c.in-Some.ensures.3.fits in
    let hi = to_z-of_z w64 c.in-Some.hi c.in-Some.ensures.4.fits in
    rw c.exit_of_run.ensures (ends_between _ _ _ _ _ _ c.run_between.result c.in-Some.lo c.in-Some.hi (typed (others_of c.args.words.now), first, c.in-Some.ensures) (rw (lo, hi) at c.run_between.ensures.run) (rw (lo, hi) at c.run_between.ensures.fault))

pub returns-in-None : goal.returns-in-None
returns-in-None g c =
    let first = first_word c.args.words.now c.name-item.result (codes "between") (omega (arith, c.in-len1-up.len_at_least)) c.name-item.is (c.is_name.ensures.0 c.if-is_name.true) in
    (wrong_bounds (typed (others_of c.args.words.now)) first c.in-None.ensures, (refl, refl))

pub returns-in-Ok : goal.returns-in-Ok
returns-in-Ok g c =
    let first = first_word c.args.words.now c.name-item-2.result (codes "text") (omega (arith, c.in-len1-up.len_at_least)) c.name-item-2.is (c.is_name-2.ensures.0 c.if-is_name-2.true) in
    rw c.exit_of_run-in-Ok.ensures (ends_text _ _ _ _ _ _ c.run_text.result c.in-Ok.check (typed (others_of c.args.words.now), first, c.in-Ok.ensures.made, c.in-Ok.ensures.within) c.run_text.ensures.run c.run_text.ensures.fault)

pub returns-in-Err : goal.returns-in-Err
returns-in-Err g c =
    let first = first_word c.args.words.now c.name-item-2.result (codes "text") (omega (arith, c.in-len1-up.len_at_least)) c.name-item-2.is (c.is_name-2.ensures.0 c.if-is_name-2.true) in
    ends_by_fault _ _ _ _ _ _ (typed (others_of c.args.words.now)) c.in-Err.end first (refl, refl) c.in-Err.ensures.fault
