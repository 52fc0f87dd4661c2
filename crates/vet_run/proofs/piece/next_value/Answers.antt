use Rattle.std.proofs.Common.{refl}
use Rattle.vet_run.proofs.Taking.{takes_record, takes_long_record, takes_unclosed, no_record}
use Rattle.vet_run.proofs.piece.next_value.Goals as goal

pub returns-in_ok-extend_from_slice-in-Record-clause-piece : goal.returns-in_ok-extend_from_slice-in-Record-clause-piece
returns-in_ok-extend_from_slice-in-Record-clause-piece g c _ =
    let r = rw c.in-Record.is at c.in_ok-next_record.ensures in
    rw (c.in_ok-extend_from_slice-in-Record.ensures.items, c.in_ok-trim_end-in-Record.ensures) (takes_record _ _ _ _ _ _ (r.short refl) (r.record refl))

pub returns-in-TooLong-clause-too_long : goal.returns-in-TooLong-clause-too_long
returns-in-TooLong-clause-too_long g c _ =
    let r = rw c.in-TooLong.is at c.in_ok-next_record.ensures.too_long in
    takes_long_record _ _ _ _ _ (r refl)

pub returns-in_ok-extend_from_slice-in-Unclosed-clause-piece : goal.returns-in_ok-extend_from_slice-in-Unclosed-clause-piece
returns-in_ok-extend_from_slice-in-Unclosed-clause-piece g c _ =
    let outside = rw c.in-Unclosed.is at c.in_ok-next_record.ensures.outside in
    let over = rw c.in-Unclosed.is at c.in_ok-next_record.ensures.unclosed in
    rw (c.in_ok-extend_from_slice-in-Unclosed.ensures.items, c.clear.ensures.items) (takes_unclosed _ _ _ _ _ (outside refl) (over refl))

pub returns-in-End-clause-end : goal.returns-in-End-clause-end
returns-in-End-clause-end g c _ =
    let over = rw c.in-End.is at c.in_ok-next_record.ensures.end in
    no_record _ _ _ _ c.next_record.new.position (over refl)
