use Rattle.std.specs.Str.Chunks.{utf8_chunks_rest}
use Rattle.vet_rules.proofs.Quotation.{IsQuoted}
use Rattle.vet_rules.proofs.quoted.QuotedDisplay.fmt.Given as goal

abbrev pub invariant-loop-chunk : goal.invariant-loop-chunk
invariant-loop-chunk g l = IsQuoted g.W.Write.write_str_gives l.initial.f l.self.0.now (utf8_chunks_rest l.chunk-iterator) l.most l.f
