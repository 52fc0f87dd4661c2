use Rattle.std.proofs.Common.{◌≡◌, ◌∙◌, ap, sym, arith, pos, to_z-of_z, unsigned_abs, ◌≤ℤ◌, ◌<ℤ◌}
use Rattle.std.proofs.lemmas.Int.{ints}
use Rattle.std.specs.Ordering.{ordering_reverse}
use Rattle.vet_checks.proofs.Numbers.{upward, before_nan, downward}
use Rattle.vet_checks.proofs.number.whole_order.Goals as goal

pub returns-then-n-ge0 : goal.returns-then-n-ge0
returns-then-n-ge0 c =
    let fits = c.ranges.n in
    let size : c.unsigned_abs-size.result ≡ unsigned_abs c.args.n = simp to_z-of_z at c.unsigned_abs-size.ensures.value in
    let up : pos 0 ≤ℤ c.args.n = omega (arith, ints) in
    c.natural_order.ensures ∙ upward c.args.n c.unsigned_abs-size.result c.args.x size up

pub returns-then-is_nan : goal.returns-then-is_nan
returns-then-is_nan c = before_nan c.args.n c.args.x (sym c.is_nan.ensures.value ∙ c.if-is_nan.true)

pub returns-else-is_nan : goal.returns-else-is_nan
returns-else-is_nan c =
    let fits = c.ranges.n in
    let size : c.unsigned_abs-size.result ≡ unsigned_abs c.args.n = simp to_z-of_z at c.unsigned_abs-size.ensures.value in
    let down : c.args.n <ℤ pos 0 = omega (arith, ints) in
    c.reverse.ensures ∙ ap ordering_reverse c.natural_order-else-is_nan.ensures
    ∙ downward c.args.n c.unsigned_abs-size.result c.args.x size down (sym c.is_nan.ensures.value ∙ c.if-is_nan.false)
