use Rattle.std.proofs.Common.{◌+◌, sym, codes}
use Rattle.predicates_core.specs.Lines.{indented}
use Rattle.predicates_core.proofs.Lines.{indented-more}
use Rattle.predicates_require.proofs.Printing.{written_more}
use Rattle.predicates_require.proofs.case_text.write_indent.Goals as goal

pub loop-preserved : goal.loop-preserved
loop-preserved g c = written_more g.W.Write.write_str_gives c.args.f.now c.loop.f c.write_str.new.self
    (indented c.loop.counter) (codes "  ") (indented (c.loop.counter + 1)) c.loop.invariant c.in_ok-write_str.ensures.writes (sym (indented-more c.loop.counter))
