use Rattle.std.proofs.Common.{◌≡◌, ◌++◌, map}
use Rattle.predicates_tree.specs.Trees.{trees_of as dynamic_trees}
use Rattle.vet_rules.specs.Trees.{tree_of, trees_of}
use Rattle.vet_checks.specs.CheckTrees.{check_tree}
use Rattle.vet_checks.specs.Compiled.{AreTreesOf}
use Rattle.vet_checks.proofs.compile.+compile.Given as goal

abbrev pub invariant-trees_of-loop-expression : goal.invariant-trees_of-loop-expression
invariant-trees_of-loop-expression l =
    (l.fn.expressions.items ≡ l.yielded ++ l.expression-iterator.rest.items)
    × AreTreesOf (trees_of (map tree_of l.yielded)) (dynamic_trees (map check_tree l.trees.items))
