use Rattle.std.proofs.Common.{Ok}
use Rattle.std.specs.Fmt.{WritesOnOk}
use Rattle.predicates_core.specs.Lines.{indented}
use Rattle.predicates_require.proofs.case_text.write_indent.Given as goal

abbrev pub invariant-loop : goal.invariant-loop
invariant-loop g l = WritesOnOk g.W.Write.write_str_gives l.initial.f (Ok tt) (indented l.counter) l.f
