use Rattle.std.specs.Prelude.{IfOk}
use Rattle.std.proofs.Common.{◌≡◌, arith, subst, sym, ap, ◌∙◌}
use Rattle.vet_rules.specs.Trees.{Implies, tree_of}
use Rattle.vet_rules.specs.Grammar.{Whole}
use Rattle.vet_rules.specs.Levels.{level_of}
use Rattle.vet_rules.specs.Printing.{signs_at, takes_if, Lays}
use Rattle.vet_rules.proofs.Laying.{none_laid, then_ok, taken_more, all_taken, parts_signs, part_behind, parts_last, implies_tree, implication_laid}
use Rattle.vet_rules.proofs.display.expression.+printing.Goals as goal

pub fmt_row-loop-index-init : goal.fmt_row-loop-index-init
fmt_row-loop-index-init g t c = none_laid c.args.f.now c.args.at_once

pub fmt_row-loop-index-preserved : goal.fmt_row-loop-index-preserved
fmt_row-loop-index-preserved g t c =
    taken_more (parts_signs c.args.separator) (part_behind c.args.separator) (parts_last c.args.separator) c.args.parts.now c.loop-index.index c.index-parts-index.result (omega arith) c.index-parts-index.is c.loop-index.invariant c.in_ok-next.ensures

pub fmt_row-returns : goal.fmt_row-returns
fmt_row-returns g t c = all_taken (parts_signs c.args.separator) c.args.parts.now c.loop-index.index (omega arith) c.loop-index.invariant

pub fmt_at-returns-in_ok-next-in-Implies-4 : goal.fmt_at-returns-in_ok-next-in-Implies-4
fmt_at-returns-in_ok-next-in-Implies-4 g t c =
    let r = c.fmt_closing.result in
    let premise = signs_at Whole (tree_of c.in-Implies.premise.value) in
    let conclusion = signs_at Whole (tree_of c.in-Implies.conclusion.value) in
    let second : Lays g.W.Write.write_str_gives c.fmt_token.new.f c.in_ok-next-in-Implies-3.next (signs_at Whole (tree_of c.deref-in-Implies-2.result.now)) c.in_ok-next-in-Implies-4.next c.fmt_at-in-Implies.new.f = c.in_ok-next-in-Implies-4.ensures in
    let e : tree_of c.args.expression.now ≡ Implies (tree_of c.in-Implies.premise.value) (tree_of c.in-Implies.conclusion.value) = ap tree_of c.in-Implies.is ∙ implies_tree c.in-Implies.premise c.in-Implies.conclusion in
    subst (λ x. IfOk r (λ next. Lays g.W.Write.write_str_gives c.args.f.now c.args.at_once (signs_at (level_of c.args.grip) x) next c.fmt_closing.new.f)) (sym e)
    (subst (λ ts. IfOk r (λ next. Lays g.W.Write.write_str_gives c.args.f.now c.args.at_once ts next c.fmt_closing.new.f)) (implication_laid (takes_if (level_of c.args.grip)) premise conclusion)
    (then_ok _ _ r c.in_ok-next-in-Implies.ensures (then_ok _ _ r (rw c.deref-in-Implies.ensures at c.in_ok-next-in-Implies-2.ensures) (then_ok _ _ r c.in_ok-next-in-Implies-3.ensures (then_ok _ _ r (rw c.deref-in-Implies-2.ensures at second) c.fmt_closing.ensures)))))

pub fmt_not-returns : goal.fmt_not-returns
fmt_not-returns g t c = then_ok _ _ c.fmt_at.result c.in_ok-next.ensures c.fmt_at.ensures

pub fmt_quantified-returns : goal.fmt_quantified-returns
fmt_quantified-returns g t c =
    let r = c.fmt_token.result in
    then_ok _ _ r c.in_ok-next.ensures (then_ok _ _ r (rw c.path.ensures at c.in_ok-next-2.ensures) (then_ok _ _ r c.in_ok-next-3.ensures c.fmt_token.ensures))

pub fmt_counted-returns : goal.fmt_counted-returns
fmt_counted-returns g t c = then_ok _ _ c.fmt_group.result c.in_ok-next.ensures (then_ok _ _ c.fmt_group.result c.in_ok-next-2.ensures c.fmt_group.ensures)

pub fmt_group-returns : goal.fmt_group-returns
fmt_group-returns g t c = then_ok _ _ c.fmt_token-2.result c.in_ok-next.ensures (then_ok _ _ c.fmt_token-2.result c.in_ok-next-2.ensures c.fmt_token-2.ensures)

pub fmt_part-returns : goal.fmt_part-returns
fmt_part-returns g t c = then_ok _ _ c.fmt_at.result (rw c.separator_word.ensures at c.in_ok-next.ensures) (rw c.grip_of_part.ensures at c.fmt_at.ensures)
