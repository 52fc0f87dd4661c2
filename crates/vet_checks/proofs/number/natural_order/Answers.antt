use Rattle.std.proofs.Common.{◌∙◌, ap, nat_cmp}
use Rattle.std.specs.Ordering.{nan_last_cmp}
use Rattle.vet_checks.proofs.Numbers.{top_is, held, above_all, by_whole_part}
use Rattle.vet_checks.proofs.number.natural_order.Goals as goal

pub returns-then-n-le-ALL_HELD : goal.returns-then-n-le-ALL_HELD
returns-then-n-le-ALL_HELD c =
    c.cmp.ensures ∙ ap (λ y. nan_last_cmp y c.args.x) c.nearest_u64_to_f64.ensures ∙ held c.args.n c.args.x c.if-n-le-ALL_HELD.true

pub returns-then-x : goal.returns-then-x
returns-then-x c =
    c.cmp-then-x.ensures ∙ ap (nat_cmp c.args.n) c.saturating_f64_to_u64.ensures
    ∙ by_whole_part c.args.n c.args.x c.if-n-le-ALL_HELD.false c.well_formed.1.0.1 (rw top_is at c.if-x.true)

pub returns-else-x : goal.returns-else-x
returns-else-x c = above_all c.args.n c.args.x c.ranges.n.fits (rw top_is at c.if-x.false)
