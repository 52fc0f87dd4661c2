use Rattle.std.proofs.Common.{get_or, refl, arith}
use Rattle.vet_rules.specs.Quoting.{byte_text}
use Rattle.vet_rules.proofs.Quotation.{none_shown, more_shown, rest_cut, all_shown}
use Rattle.vet_rules.proofs.quoted.fmt_bytes.Goals as goal

pub loop-byte-init : goal.loop-byte-init
loop-byte-init g c = none_shown g.W.Write.write_str_gives byte_text c.args.bytes.now c.args.most c.args.f.now

pub loop-byte-preserved : goal.loop-byte-preserved
loop-byte-preserved g c =
    more_shown g.W.Write.write_str_gives byte_text c.args.bytes.now c.args.most c.args.f.now c.loop-byte.f c.fmt_byte.new.f c.loop-byte.byte-index c.loop-byte.left (get_or c.args.bytes.now c.loop-byte.byte-index 0) 0
    (omega arith) refl (omega arith) c.loop-byte.invariant c.in_ok-fmt_byte.ensures

pub returns-then-left-eq0 : goal.returns-then-left-eq0
returns-then-left-eq0 g c =
    rest_cut g.W.Write.write_str_gives byte_text c.args.bytes.now c.args.most c.args.f.now c.loop-byte.f c.write_str.new.self c.loop-byte.byte-index 0
    (omega arith) (rw c.if-left-eq0.true at c.loop-byte.invariant) c.in_ok-write_str.ensures.writes

pub returns : goal.returns
returns g c = all_shown g.W.Write.write_str_gives byte_text c.args.bytes.now c.args.most c.args.f.now c.loop-byte.f c.loop-byte.byte-index c.loop-byte.left (omega arith) c.loop-byte.invariant
