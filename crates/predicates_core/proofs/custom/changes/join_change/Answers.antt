use Rattle.std.proofs.Common.{rules, string_bytes}
use Rattle.predicates_core.proofs.Asked.{no_change_in_turn, change_in_turn}
use Rattle.predicates_core.proofs.custom.changes.join_change.Goals as goal

pub returns-then-is_other : goal.returns-then-is_other
returns-then-is_other g c = no_change_in_turn c.args.join.operator c.args.wanted c.in_ok-left.left c.in_ok-right.right.change (g.W.Display.output c.args.join.whole.now) (g.P.Predicate.formula c.args.join.left.now c.args.item.now) (g.Q.Predicate.formula c.args.join.right.now c.args.item.now) _
    c.in_ok-left.ensures c.shown_verdict-left_holds.ensures c.in_ok-right.ensures c.apply-holds.ensures (rw (← c.is_other.ensures) c.if-is_other.true)

pub returns : goal.returns
returns g c = change_in_turn c.args.join.operator c.args.wanted c.in_ok-left.left c.in_ok-right.right.change (g.W.Display.output c.args.join.whole.now) (g.P.Predicate.formula c.args.join.left.now c.args.item.now) (g.Q.Predicate.formula c.args.join.right.now c.args.item.now) _ (string_bytes c.in_ok-text.text)
    c.left_wanted-left_wanted.ensures c.in_ok-left.ensures c.shown_verdict-left_holds.ensures c.in_ok-right.ensures c.apply-holds.ensures (rw (← c.is_other.ensures) c.if-is_other.false)
    c.keeps.ensures (rw (← c.kept_if-kept.ensures) c.in_ok-binary_node_of.ensures) (search rules)
