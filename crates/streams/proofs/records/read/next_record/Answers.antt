use Rattle.std.proofs.Common.{◌≡◌, ◌<◌, ◌≤◌, length, refl, arith}
use Rattle.streams.specs.declared.records.taken_record.TakenRecord.TheVariants.{Record, TooLong, End}
use Rattle.streams.proofs.Taking.{Taken-none, Taken-part, as_whole, as_long, next_of, last_of, over_of, inside_of, on_err, at_end_of}
use Rattle.streams.proofs.records.read.next_record.Goals as goal

pub loop-init : goal.loop-init
loop-init g c = rw c.clear.ensures.items (Taken-none _ _ _)

pub loop-preserved : goal.loop-preserved
loop-preserved g c = rw c.in-More.is at (Taken-part _ _ _ _ _ _ _ _ _ _ c.loop.invariant c.in_ok-take_part.ensures.part)

pub returns-in_err-take_part-clause-inside : goal.returns-in_err-take_part-clause-inside
returns-in_err-take_part-clause-inside g c =
    on_err _ _ (inside_of _ _ _ _ _ _ (Taken-part _ _ _ _ _ _ _ _ _ _ c.loop.invariant c.in_err-take_part.ensures.part))

pub returns-clause-inside : goal.returns-clause-inside
returns-clause-inside g c = inside_of _ _ _ _ _ _ c.loop.invariant

pub returns-in-Ended-clause-record : goal.returns-in-Ended-clause-record
returns-in-Ended-clause-record g c is =
    let taken = rw c.in-Ended.is at (Taken-part _ _ _ _ _ _ _ _ _ _ c.loop.invariant c.in_ok-take_part.ensures.part) in
    let whole : c.judge.result ≡ Record = cc in
    let short : length c.take_part.new.value.items ≤ c.args.limit = omega (arith, c.judge.ensures.whole whole, c.len.ensures, c.take_part.new.value.ok.0) in
    as_whole _ _ _ _ _ _ _ _ refl taken _ short (next_of _ _ _ _ _ _ taken)

pub returns-in-Ended-clause-too_long : goal.returns-in-Ended-clause-too_long
returns-in-Ended-clause-too_long g c is =
    let taken = rw c.in-Ended.is at (Taken-part _ _ _ _ _ _ _ _ _ _ c.loop.invariant c.in_ok-take_part.ensures.part) in
    let too_long : c.judge.result ≡ TooLong = cc in
    let long : c.args.limit < length c.take_part.new.value.items = omega (arith, c.judge.ensures.long too_long, c.len.ensures, c.take_part.new.value.ok.0) in
    as_long _ _ _ _ _ _ _ _ refl taken _ long (next_of _ _ _ _ _ _ taken)

pub returns-in-AtEnd-clause-record : goal.returns-in-AtEnd-clause-record
returns-in-AtEnd-clause-record g c is =
    let part = rw c.in-AtEnd.is at c.in_ok-take_part.ensures.part in
    let taken = Taken-part _ _ _ _ _ _ _ _ _ _ c.loop.invariant part in
    let end = at_end_of _ _ _ _ c.loop.invariant.consumed (part.at_end refl) in
    let whole : c.end_input.result ≡ Record = cc in
    let cut = c.end_input.ensures.whole whole in
    let short : length c.take_part.new.value.items ≤ c.args.limit = omega (arith, cut.1, c.len-in-AtEnd.ensures, c.take_part.new.value.ok.0) in
    as_whole _ _ _ _ _ _ _ _ refl taken _ short (last_of _ _ _ _ _ _ taken end _ cut.0)

pub returns-in-AtEnd-clause-too_long : goal.returns-in-AtEnd-clause-too_long
returns-in-AtEnd-clause-too_long g c is =
    let part = rw c.in-AtEnd.is at c.in_ok-take_part.ensures.part in
    let taken = Taken-part _ _ _ _ _ _ _ _ _ _ c.loop.invariant part in
    let end = at_end_of _ _ _ _ c.loop.invariant.consumed (part.at_end refl) in
    let too_long : c.end_input.result ≡ TooLong = cc in
    let cut = c.end_input.ensures.long too_long in
    let long : c.args.limit < length c.take_part.new.value.items = omega (arith, cut.1, c.len-in-AtEnd.ensures, c.take_part.new.value.ok.0) in
    as_long _ _ _ _ _ _ _ _ refl taken _ long (last_of _ _ _ _ _ _ taken end _ cut.0)

pub returns-in-AtEnd-clause-end : goal.returns-in-AtEnd-clause-end
returns-in-AtEnd-clause-end g c is =
    let part = rw c.in-AtEnd.is at c.in_ok-take_part.ensures.part in
    let taken = Taken-part _ _ _ _ _ _ _ _ _ _ c.loop.invariant part in
    let end = at_end_of _ _ _ _ c.loop.invariant.consumed (part.at_end refl) in
    let none : c.end_input.result ≡ End = cc in
    let over = c.end_input.ensures.none none in
    over_of _ _ _ _ _ _ taken end _ over.0 over.1
