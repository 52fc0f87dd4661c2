use Rattle.std.proofs.Common.{◌∙◌, ap, sym, refl, rules, to_z-of_z, SFits, w64}
use Rattle.std.specs.Ordering.{ordering_reverse}
use Rattle.std.proofs.lemmas.Float.{nan_last}
use Rattle.serde_json.specs.Data.{unsigned, negative}
use Rattle.vet_checks.specs.Numbers.{number_cmp, number_cmp_total, whole}
use Rattle.vet_checks.proofs.Numbers.{natural, number_cmp_of_wholes, nat_cmp_is_int_cmp}
use Rattle.vet_checks.proofs.number.ExactOrd.cmp.Goals as goal

pub returns-in-Natural-Natural : goal.returns-in-Natural-Natural
returns-in-Natural-Natural c =
    rw (c.in-Natural-Natural.is-0, c.in-Natural-Natural.is-1)
    (c.cmp.ensures ∙ nat_cmp_is_int_cmp c.in-Natural-Natural.m c.in-Natural-Natural.n
    ∙ sym (number_cmp_of_wholes (unsigned c.in-Natural-Natural.m) (unsigned c.in-Natural-Natural.n) _ _ refl refl))

pub returns-in-Natural-Negative : goal.returns-in-Natural-Negative
returns-in-Natural-Negative c =
    let n : SFits w64 c.in-Natural-Negative.n = search rules in
    rw (c.in-Natural-Negative.is-0, c.in-Natural-Negative.is-1)
    ((simp to_z-of_z at c.mixed_order.ensures) ∙ sym (number_cmp_of_wholes (unsigned c.in-Natural-Negative.m) (negative c.in-Natural-Negative.n) _ _ refl refl))

pub returns-in-Natural-Float : goal.returns-in-Natural-Float
unfolding number_cmp
returns-in-Natural-Float c = rw (c.in-Natural-Float.is-0, c.in-Natural-Float.is-1) c.natural_order.ensures

pub returns-in-Negative-Natural : goal.returns-in-Negative-Natural
returns-in-Negative-Natural c =
    let m : SFits w64 c.in-Negative-Natural.m = search rules in
    rw (c.in-Negative-Natural.is-0, c.in-Negative-Natural.is-1)
    (c.reverse.ensures
    ∙ ap ordering_reverse
    ((simp to_z-of_z at c.mixed_order-in-Negative-Natural.ensures)
    ∙ sym (number_cmp_of_wholes (unsigned c.in-Negative-Natural.n) (negative c.in-Negative-Natural.m) _ _ refl refl))
    ∙ sym (number_cmp_total.antisymm (negative c.in-Negative-Natural.m) (unsigned c.in-Negative-Natural.n)))

pub returns-in-Negative-Negative : goal.returns-in-Negative-Negative
returns-in-Negative-Negative c =
    let m : SFits w64 c.in-Negative-Negative.m = search rules in
    let n : SFits w64 c.in-Negative-Negative.n = search rules in
    rw (c.in-Negative-Negative.is-0, c.in-Negative-Negative.is-1)
    ((simp to_z-of_z at c.cmp-in-Negative-Negative.ensures) ∙ sym (number_cmp_of_wholes (negative c.in-Negative-Negative.m) (negative c.in-Negative-Negative.n) _ _ refl refl))

pub returns-in-Negative-Float : goal.returns-in-Negative-Float
unfolding number_cmp
returns-in-Negative-Float c =
    let m : SFits w64 c.in-Negative-Float.m = search rules in
    rw (c.in-Negative-Float.is-0, c.in-Negative-Float.is-1) (simp to_z-of_z at c.whole_order.ensures)

pub returns-in-Float-Natural : goal.returns-in-Float-Natural
unfolding number_cmp
returns-in-Float-Natural c =
    rw (c.in-Float-Natural.is-0, c.in-Float-Natural.is-1)
    (c.reverse-in-Float-Natural.ensures
    ∙ ap ordering_reverse c.natural_order-in-Float-Natural.ensures
    ∙ sym (nan_last.antisymm c.in-Float-Natural.x (natural c.in-Float-Natural.n)))

pub returns-in-Float-Negative : goal.returns-in-Float-Negative
unfolding number_cmp
returns-in-Float-Negative c =
    let n : SFits w64 c.in-Float-Negative.n = search rules in
    rw (c.in-Float-Negative.is-0, c.in-Float-Negative.is-1)
    (c.reverse-in-Float-Negative.ensures
    ∙ ap ordering_reverse (simp to_z-of_z at c.whole_order-in-Float-Negative.ensures)
    ∙ sym (nan_last.antisymm c.in-Float-Negative.x (whole c.in-Float-Negative.n)))

pub returns-in-Float-Float : goal.returns-in-Float-Float
unfolding number_cmp
returns-in-Float-Float c = rw (c.in-Float-Float.is-0, c.in-Float-Float.is-1) c.cmp-in-Float-Float.ensures
