use Rattle.vet_run.proofs.Taking.{takes_short, takes_long, no_line}
use Rattle.vet_run.proofs.piece.next_piece.Goals as goal

pub returns-in-JsonLines-clause-piece : goal.returns-in-JsonLines-clause-piece
returns-in-JsonLines-clause-piece g c is =
    rw c.in-JsonLines.is (takes_short _ _ _ c.args.position.now c.args.position.now _ (c.next_line_within.ensures.short is) (c.next_line_within.ensures.line is))

pub returns-in-JsonLines-clause-too_long : goal.returns-in-JsonLines-clause-too_long
returns-in-JsonLines-clause-too_long g c is = rw c.in-JsonLines.is (takes_long _ _ _ c.args.position.now c.args.position.now (c.next_line_within.ensures.too_long is))

pub returns-in-JsonLines-clause-end : goal.returns-in-JsonLines-clause-end
returns-in-JsonLines-clause-end g c is = rw c.in-JsonLines.is (no_line _ _ _ c.args.position.now c.args.position.now (c.next_line_within.ensures.end is))

pub returns-in-Json-clause-piece : goal.returns-in-Json-clause-piece
returns-in-Json-clause-piece g c is = rw c.in-Json.is (c.next_value.ensures.piece is)

pub returns-in-Json-clause-too_long : goal.returns-in-Json-clause-too_long
returns-in-Json-clause-too_long g c is = rw c.in-Json.is (c.next_value.ensures.too_long is)

pub returns-in-Json-clause-end : goal.returns-in-Json-clause-end
returns-in-Json-clause-end g c is = rw c.in-Json.is (c.next_value.ensures.end is)
