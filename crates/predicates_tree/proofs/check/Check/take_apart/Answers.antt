use Rattle.std.proofs.Common.{◌≡◌, ◌+◌, suc, arith, ap, ◌∙◌}
use Rattle.predicates_tree.specs.Sizes.{size_of, sizes_of}
use Rattle.predicates_tree.proofs.Dropping.{leaf_size, not_size, named_size, pair_size, row_size, members_size, smaller, then_waiting}
use Rattle.predicates_tree.proofs.check.Check.take_apart.Goals as goal

pub returns-in-Leaf : goal.returns-in-Leaf
returns-in-Leaf g c =
    let is : size_of c.args.self ≡ 1 = ap size_of c.in-Leaf.is ∙ leaf_size _ _ c.in-Leaf.leaf in
    then_waiting (size_of c.args.self) c.args.waiting c.resumed.result (omega (arith, is)) c.resumed.ensures

pub returns-in-Not : goal.returns-in-Not
returns-in-Not g c =
    let is : size_of c.args.self ≡ suc (size_of c.in-Not.inner.value) = ap size_of c.in-Not.is ∙ not_size c.in-Not.field-0 c.in-Not.inner in
    rw c.into_inner.ensures (smaller c.in-Not.inner.value (size_of c.args.self) c.args.waiting c.args.waiting (omega (arith, is)) (omega (arith, is)))

pub returns-in-Named : goal.returns-in-Named
returns-in-Named g c =
    let is : size_of c.args.self ≡ suc (size_of c.in-Named.inner.value) = ap size_of c.in-Named.is ∙ named_size c.in-Named.field-0 c.in-Named.inner in
    rw c.into_inner-in-Named.ensures (smaller c.in-Named.inner.value (size_of c.args.self) c.args.waiting c.args.waiting (omega (arith, is)) (omega (arith, is)))

pub returns-in-Pair : goal.returns-in-Pair
returns-in-Pair g c =
    let is : size_of c.args.self ≡ suc (size_of c.in-Pair.left.value + size_of c.in-Pair.right.value) = ap size_of c.in-Pair.is ∙ pair_size c.in-Pair.wording c.in-Pair.operator c.in-Pair.left c.in-Pair.right in
    let total = c.left_first.ensures.total in
    let first = c.left_first.ensures.first in
    smaller c.left_first.result.0 (size_of c.args.self) c.left_first.result.1 c.args.waiting (omega (arith, is, total)) (omega (arith, is, first))

pub returns-in-Row : goal.returns-in-Row
returns-in-Row g c =
    let is : size_of c.args.self ≡ suc (sizes_of c.in-Row.parts.items) = ap size_of c.in-Row.is ∙ row_size c.in-Row.wording c.in-Row.field-1 c.in-Row.parts in
    rw is c.parts_apart.ensures

pub returns-in-Members : goal.returns-in-Members
returns-in-Members g c =
    let is : size_of c.args.self ≡ suc (size_of c.in-Members.inner.value) = ap size_of c.in-Members.is ∙ members_size c.in-Members.field-0 c.in-Members.field-1 c.in-Members.field-2 c.in-Members.inner in
    rw c.into_inner-in-Members.ensures (smaller c.in-Members.inner.value (size_of c.args.self) c.args.waiting c.args.waiting (omega (arith, is)) (omega (arith, is)))
