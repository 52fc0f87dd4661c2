use Rattle.std.proofs.Common.{map, take, Ok}
use Rattle.std.specs.Fmt.{DisplaysOnOk}
use Rattle.predicates_core.specs.Several.{further_texts}
use Rattle.predicates_boolean.proofs.rules.write_further.Given as goal

abbrev pub invariant-loop-rule : goal.invariant-loop-rule
invariant-loop-rule g l = DisplaysOnOk g.W.Write.write_str_gives l.initial.f (Ok tt) (further_texts (map g.P.Display.output (take l.rule-index l.rules))) l.f
