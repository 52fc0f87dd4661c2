use Rattle.std.proofs.Common.{ℕ, List, [], ◌++◌, Ok, ap, rules}
use Rattle.streams.specs.Steps.{IsInside}
use Rattle.streams.proofs.Parts.{on_err, inside_none, inside_next, whole_next}
use Rattle.streams.proofs.within.pass_rest.Goals as goal

pub loop-init : goal.loop-init
loop-init g c = ([], inside_none _)

pub loop-preserved : goal.loop-preserved
loop-preserved g c =
    let part = c.in_ok-take_part.ensures.part in
    (c.loop.invariant.0 ++ part.part, inside_next _ _ _ _ _ _ _ _ c.loop.invariant.1 part (λ e. cc c.if-branch.false))

pub returns-in_err-take_part-clause-rest : goal.returns-in_err-take_part-clause-rest
returns-in_err-take_part-clause-rest g c =
    let part = c.in_err-take_part.ensures.part in
    let passed : (bytes : List ℕ) × IsInside (g.R.Read.remaining c.args.input.now) (g.R.Read.remaining c.take_part.new.input) bytes =
    (c.loop.invariant.0 ++ part.part, inside_next _ _ _ _ _ _ _ _ c.loop.invariant.1 part (λ e. cc)) in
    record { whole = search rules; inside = on_err _ _ passed }

pub returns-then-branch-clause-rest : goal.returns-then-branch-clause-rest
returns-then-branch-clause-rest g c =
    record { whole = (whole_next _ _ _ _ _ _ _ _ c.loop.invariant.1 c.in_ok-take_part.ensures.part (ap Ok c.if-branch.true)).1; inside = tt }

pub returns-clause-rest : goal.returns-clause-rest
returns-clause-rest g c = record { whole = tt; inside = c.loop.invariant }
