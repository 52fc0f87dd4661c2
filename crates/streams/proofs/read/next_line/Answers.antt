use Rattle.std.proofs.Common.{◌<◌, length, arith}
use Rattle.std.specs.Io.BufRead.{drop_through}
use Rattle.streams.proofs.Splitting.{ended_from_taken}
use Rattle.streams.proofs.read.next_line.Goals as goal

pub returns-in-Ok-clause-more : goal.returns-in-Ok-clause-more
returns-in-Ok-clause-more g c _ bytes known =
    let rest = rw known at c.in-Ok.ensures.rest in
    let taken = rw (known, c.clear.ensures.items) at c.in-Ok.ensures.bytes in
    let some : 0 < length c.read_until.new.buf.items = omega (arith, c.in-Ok.ensures.ok, c.clear.ensures.len, c.in-Ok.field-0-test.1, c.read_until.new.buf.ok.0) in
    (drop_through 10 bytes, rest, ended_from_taken bytes c.read_until.new.buf.items taken some)
