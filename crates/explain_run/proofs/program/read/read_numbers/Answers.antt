use Rattle.std.specs.Int.{w64}
use Rattle.std.proofs.lemmas.Int.{to_z-of_z}
use Rattle.explain_run.proofs.CommandLine.{found, not_found}
use Rattle.explain_run.proofs.program.read.read_numbers.Goals as goal

pub returns-in-Some-Some : goal.returns-in-Some-Some
returns-in-Some-Some c =
    let lo = found c.args.lo.now c.number.result c.in-Some-Some.lo c.number.ensures c.in-Some-Some.is-0 in
    let hi = found c.args.hi.now c.number-2.result c.in-Some-Some.hi c.number-2.ensures c.in-Some-Some.is-1 in
    rw (to_z-of_z w64 c.in-Some-Some.lo lo.fits, to_z-of_z w64 c.in-Some-Some.hi hi.fits) (lo, hi)

pub returns-in_default : goal.returns-in_default
returns-in_default c a b _ reads = not_found c.args.hi.now c.number-2.result c.number-2.ensures c.in_default.is-1 b reads

pub returns-in_default-2 : goal.returns-in_default-2
returns-in_default-2 c a b reads _ = not_found c.args.lo.now c.number.result c.number.ensures c.in_default.is-0 a reads
