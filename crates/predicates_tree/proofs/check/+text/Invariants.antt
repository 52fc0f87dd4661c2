use Rattle.std.proofs.Common.{map, take, Ok}
use Rattle.std.specs.Fmt.{DisplaysOnOk}
use Rattle.predicates_core.specs.Several.{further_texts}
use Rattle.predicates_tree.specs.Formulas.{check_text}
use Rattle.predicates_tree.specs.Listed.{joined_texts}
use Rattle.predicates_tree.proofs.check.+text.Given as goal

abbrev pub invariant-Check::fmt_parts-loop-index : goal.invariant-Check::fmt_parts-loop-index
invariant-Check::fmt_parts-loop-index g l = DisplaysOnOk g.W.Write.write_str_gives l.initial.f (Ok tt) (joined_texts (map (check_text g.L.Display.output g.V.Display.output g.S.Wording.words) (take l.index l.parts))) l.f

abbrev pub invariant-Check::fmt_further-loop-part : goal.invariant-Check::fmt_further-loop-part
invariant-Check::fmt_further-loop-part g l = DisplaysOnOk g.W.Write.write_str_gives l.initial.f (Ok tt) (further_texts (map (check_text g.L.Display.output g.V.Display.output g.S.Wording.words) (take l.part-index l.parts))) l.f
