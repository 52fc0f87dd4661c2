use Rattle.std.proofs.Common.{◌≡◌, ◌∙◌, sym, subst, ap}
use Rattle.std.specs.Str.Chunks.{utf8_chunk_valid, utf8_chunk_invalid, utf8_chunks_rest}
use Rattle.vet_rules.proofs.Quotation.{IsQuoted, none_quoted, one_quoted, cut_quoted, all_quoted}
use Rattle.vet_rules.proofs.quoted.QuotedDisplay.fmt.Goals as goal

pub loop-chunk-init : goal.loop-chunk-init
loop-chunk-init g c =
    let e : c.args.self.now.0.now ≡ utf8_chunks_rest c.into_iter-chunk-iterator.result = sym (ap utf8_chunks_rest c.into_iter-chunk-iterator.ensures.into_iter_gives ∙ c.utf8_chunks-chunk-items.ensures.rest) in
    subst (λ rest. IsQuoted g.W.Write.write_str_gives c.args.f.now c.args.self.now.0.now rest 32 c.args.f.now) e (none_quoted g.W.Write.write_str_gives c.args.f.now c.args.self.now.0.now)

pub loop-chunk-preserved : goal.loop-chunk-preserved
loop-chunk-preserved g c =
    let chunk = c.in-Some.chunk in
    let steps = c.in-Some.ensures.steps in
    one_quoted g.W.Write.write_str_gives c.args.f.now c.args.self.now.0.now c.loop-chunk.f c.fmt_chunk.new.f (utf8_chunks_rest c.loop-chunk.chunk-iterator) (utf8_chunk_valid chunk) (utf8_chunk_invalid chunk) (utf8_chunks_rest c.next.new.self) c.loop-chunk.most c.in-Some-2.left
    (record { whole = steps.0; shorter = steps.1; text_len = steps.3.0; others_len = steps.3.1 }) c.loop-chunk.invariant (rw c.in-Some-2.is at c.in_ok-left.ensures)

pub returns-in-None-2-clause-writes : goal.returns-in-None-2-clause-writes
returns-in-None-2-clause-writes g c =
    let chunk = c.in-Some.chunk in
    let steps = c.in-Some.ensures.steps in
    cut_quoted g.W.Write.write_str_gives c.args.f.now c.args.self.now.0.now c.loop-chunk.f c.fmt_chunk.new.f (utf8_chunks_rest c.loop-chunk.chunk-iterator) (utf8_chunk_valid chunk) (utf8_chunk_invalid chunk) (utf8_chunks_rest c.next.new.self) c.loop-chunk.most
    (record { whole = steps.0; shorter = steps.1; text_len = steps.3.0; others_len = steps.3.1 }) c.loop-chunk.invariant (rw c.in-None-2.is at c.in_ok-left.ensures)

pub returns-clause-writes : goal.returns-clause-writes
returns-clause-writes g c = all_quoted g.W.Write.write_str_gives c.args.f.now c.args.self.now.0.now c.loop-chunk.f (utf8_chunks_rest c.loop-chunk.chunk-iterator) c.loop-chunk.most c.in-None.ensures.steps.0 c.loop-chunk.invariant
