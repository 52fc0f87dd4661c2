use Rattle.std.proofs.Common.{map}
use Rattle.predicates_core.specs.Shows.{IsNode}
use Rattle.predicates_tree.proofs.odd.node_over.Given as goal

abbrev pub invariant-loop-case : goal.invariant-loop-case
invariant-loop-case g l = IsNode (g.W.Display.output l.list.whole.now) l.verdict (map (λ c. (l.list.name.now, c)) l.yielded) l.node
