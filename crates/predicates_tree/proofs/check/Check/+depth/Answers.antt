use Rattle.std.proofs.Common.{◌≡◌, suc, max, arith, refl, ap, ◌∙◌}
use Rattle.predicates_tree.specs.Depth.{depth_of, depth_of_parts}
use Rattle.predicates_tree.proofs.Depths.{deeper_by_one, right_is_deeper, pair_depth, row_depth, none_deeper, depth_at}
use Rattle.predicates_tree.proofs.check.Check.+depth.Goals as goal

pub is_deeper_than-returns-else-is_deeper_than : goal.is_deeper_than-returns-else-is_deeper_than
is_deeper_than-returns-else-is_deeper_than g t c =
    let is : depth_of c.args.self.now ≡ suc (max (depth_of c.in-Pair.left.value) (depth_of c.in-Pair.right.value)) = ap depth_of c.in-Pair.is ∙ pair_depth _ _ c.in-Pair.left c.in-Pair.right in
    right_is_deeper c.args.limit _ _ _ c.is_deeper_than-in-Pair.result c.is_deeper_than-else-is_deeper_than.result (omega arith) is c.if-is_deeper_than.false
    (rw c.deref-in-Pair.ensures at c.is_deeper_than-in-Pair.ensures) (rw c.deref-else-is_deeper_than.ensures at c.is_deeper_than-else-is_deeper_than.ensures)

pub is_deeper_than-returns-in-Row : goal.is_deeper_than-returns-in-Row
is_deeper_than-returns-in-Row g t c =
    let is : depth_of c.args.self.now ≡ suc (depth_of_parts c.in-Row.parts.items) = ap depth_of c.in-Row.is ∙ row_depth _ _ c.in-Row.parts in
    deeper_by_one c.args.limit _ _ c.one_is_deeper.result (omega arith) is (rw c.deref-in-Row.ensures.value at c.one_is_deeper.ensures)

pub one_is_deeper-returns-then-is_deeper_than : goal.one_is_deeper-returns-then-is_deeper_than
one_is_deeper-returns-then-is_deeper_than g t c =
    let deep = c.is_deeper_than.ensures.0 c.if-is_deeper_than.true in
    let most = depth_at c.args.parts.now c.loop-part.part-index c.part-item.result (omega arith) c.part-item.is in
    (λ yes. omega (arith, deep, most), λ more. refl)

pub one_is_deeper-loop-part-preserved : goal.one_is_deeper-loop-part-preserved
one_is_deeper-loop-part-preserved g t c = none_deeper c.args.limit c.args.parts.now c.loop-part.part-index c.part-item.result c.is_deeper_than.result (omega arith) c.part-item.is c.loop-part.invariant c.if-is_deeper_than.false c.is_deeper_than.ensures
