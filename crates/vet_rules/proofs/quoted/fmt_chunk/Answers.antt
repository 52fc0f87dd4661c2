use Rattle.std.proofs.Common.{map}
use Rattle.std.specs.Str.{chars}
use Rattle.std.specs.Str.Chunks.{utf8_chunk_valid, utf8_chunk_invalid}
use Rattle.vet_rules.specs.Quoting.{character_text, byte_text}
use Rattle.vet_rules.proofs.Quotation.{shown_behind, shown_cut}
use Rattle.vet_rules.proofs.quoted.fmt_chunk.Goals as goal

pub returns-in-Some : goal.returns-in-Some
returns-in-Some g c =
    shown_behind g.W.Write.write_str_gives c.args.f.now c.fmt_text.new.f c.fmt_bytes.new.f c.args.most c.in-Some.left
    (map character_text (chars (utf8_chunk_valid c.args.chunk.now))) (map byte_text (utf8_chunk_invalid c.args.chunk.now)) c.fmt_bytes.result
    (rw (c.valid.ensures, c.in-Some.is) at c.in_ok-left.ensures) (rw c.invalid.ensures at c.fmt_bytes.ensures)

pub returns-in-None : goal.returns-in-None
returns-in-None g c =
    shown_cut g.W.Write.write_str_gives c.args.f.now c.fmt_text.new.f c.args.most
    (map character_text (chars (utf8_chunk_valid c.args.chunk.now))) (map byte_text (utf8_chunk_invalid c.args.chunk.now))
    (rw (c.valid.ensures, c.in-None.is) at c.in_ok-left.ensures)
