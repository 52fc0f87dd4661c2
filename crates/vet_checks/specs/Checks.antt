-- What a check of the code is, as a tree.
use Rattle.vet_checks.specs.declared.check.Check.{Check}
use Rattle.vet_checks.specs.CheckTrees.{CheckTree, check_tree}

abbrev pub tree_of_check : Check → CheckTree
tree_of_check c = check_tree c.tree
