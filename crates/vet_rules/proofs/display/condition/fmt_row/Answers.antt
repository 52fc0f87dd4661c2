use Rattle.std.proofs.Common.{◌∷◌, ◌++◌, [], map, arith}
use Rattle.vet_rules.specs.declared.fixed.Fixed.TheVariants as fixed
use Rattle.vet_rules.specs.Printing.{row_signs, front_signs}
use Rattle.vet_rules.proofs.Laying.{none_laid, then, taken_more, all_taken, elements_last}
use Rattle.vet_rules.proofs.display.condition.fmt_row.Goals as goal

pub loop-index-init : goal.loop-index-init
loop-index-init g c = none_laid c.args.f.now c.args.at_once

pub loop-index-preserved : goal.loop-index-preserved
loop-index-preserved g c =
    taken_more (λ us. row_signs (map g.T.Element.sign (map g.T.Element.value us))) (λ k u. front_signs fixed.Comma k ++ g.T.Element.sign (g.T.Element.value u) ∷ []) (elements_last g.T.Element.sign g.T.Element.value) c.args.elements.now c.loop-index.index c.index-elements-index.result (omega arith) c.index-elements-index.is c.loop-index.invariant
    (then c.in_ok-next.ensures (rw c.token.ensures at c.in_ok-next-2.ensures))

pub returns : goal.returns
returns g c = all_taken (λ us. row_signs (map g.T.Element.sign (map g.T.Element.value us))) c.args.elements.now c.loop-index.index (omega arith) c.loop-index.invariant
