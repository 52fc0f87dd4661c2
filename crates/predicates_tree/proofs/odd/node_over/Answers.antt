use Rattle.predicates_tree.proofs.OddRows.{node_more}
use Rattle.predicates_tree.proofs.odd.node_over.Goals as goal

pub loop-case-preserved : goal.loop-case-preserved
loop-case-preserved g c = node_more c.args.list.name.now c.loop-case.yielded c.in-Some.case c.loop-case.invariant c.in_ok-node.ensures
