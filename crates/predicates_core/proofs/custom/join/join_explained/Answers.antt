use Rattle.std.proofs.Common.{rules, string_bytes}
use Rattle.predicates_core.proofs.Asked.{none_in_turn, case_in_turn}
use Rattle.predicates_core.proofs.custom.join.join_explained.Goals as goal

pub returns-then-is_other : goal.returns-then-is_other
returns-then-is_other g c = none_in_turn c.args.join.operator c.args.wanted c.in_ok-left.left c.in_ok-right.right (g.W.Display.output c.args.join.whole.now) (g.P.Predicate.formula c.args.join.left.now c.args.item.now) (g.Q.Predicate.formula c.args.join.right.now c.args.item.now)
    c.left_wanted-left_wanted.ensures c.in_ok-left.ensures c.shown_verdict-left_holds.ensures c.asks-asks.ensures c.right_wanted-right_wanted.ensures c.in_ok-right.ensures c.shown_verdict-right_holds.ensures c.apply-holds.ensures (rw (← c.is_other.ensures) c.if-is_other.true)

pub returns : goal.returns
returns g c = case_in_turn c.args.join.operator c.args.wanted c.in_ok-left.left c.in_ok-right.right (g.W.Display.output c.args.join.whole.now) (g.P.Predicate.formula c.args.join.left.now c.args.item.now) (g.Q.Predicate.formula c.args.join.right.now c.args.item.now) (string_bytes c.in_ok-text.text)
    c.left_wanted-left_wanted.ensures c.in_ok-left.ensures c.shown_verdict-left_holds.ensures c.asks-asks.ensures c.right_wanted-right_wanted.ensures c.in_ok-right.ensures c.shown_verdict-right_holds.ensures c.apply-holds.ensures (rw (← c.is_other.ensures) c.if-is_other.false)
    c.keeps.ensures (rw (← c.kept_if-kept.ensures) c.in_ok-binary_node_of.ensures) (search rules)
