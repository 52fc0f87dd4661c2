use Rattle.std.proofs.Common.{rules, ◌≡◌, ◌++◌, ◌∷◌, [], map, sym, ap, subst, ◌∙◌, append_assoc}
use Rattle.std.proofs.lemmas.Result.{err_from_is_err_and}
use Rattle.predicates_tree.specs.Trees.{trees_of as dynamic_trees}
use Rattle.vet_rules.specs.Trees.{tree_of, trees_of}
use Rattle.vet_checks.specs.CheckTrees.{check_tree}
use Rattle.vet_checks.specs.Compiled.{AreTreesOf}
use Rattle.vet_checks.proofs.Refusing.{failure_among}
use Rattle.vet_checks.proofs.Rows.{trees_more, all_yielded}
use Rattle.vet_checks.proofs.compile.+compile.Goals as goal

pub trees_of-loop-expression-init : goal.trees_of-loop-expression-init
trees_of-loop-expression-init t c = (sym c.into_iter-expression-iterator.ensures.into_iter_gives.0, rw c.in_ok-trees.ensures.items tt)

pub trees_of-loop-expression-preserved : goal.trees_of-loop-expression-preserved
trees_of-loop-expression-preserved t c = (
  c.loop-expression.invariant.0 ∙ ap (λ r. c.loop-expression.yielded ++ r) (search rules) ∙ sym (append_assoc c.loop-expression.yielded (c.in-Some.expression ∷ []) c.next.new.self.rest.items),
  rw c.in_ok-push.ensures.items (trees_more tree_of check_tree c.loop-expression.yielded c.loop-expression.trees.items c.in-Some.expression c.in_ok-tree_of.field-0 c.loop-expression.invariant.1 c.in_ok-tree_of.ensures.compiled),
)

pub trees_of-returns-clause-compiled : goal.trees_of-returns-clause-compiled
trees_of-returns-clause-compiled t c =
    let all = all_yielded c.args.expressions.items c.loop-expression.yielded c.loop-expression.expression-iterator.rest.items c.loop-expression.invariant.0 (search rules) in
    subst (λ es. AreTreesOf (trees_of (map tree_of es)) (dynamic_trees (map check_tree c.loop-expression.trees.items))) (sym all) c.loop-expression.invariant.1

pub trees_of-returns-in_err-tree_of-clause-refused : goal.trees_of-returns-in_err-tree_of-clause-refused
trees_of-returns-in_err-tree_of-clause-refused t c =
    let is : c.args.expressions.items ≡ c.loop-expression.yielded ++ c.in-Some.expression ∷ c.next.new.self.rest.items = c.loop-expression.invariant.0 ∙ ap (λ r. c.loop-expression.yielded ++ r) (search rules) in
    let p = err_from_is_err_and c.from_residual-in_err-tree_of.result c.from_residual-in_err-tree_of.ensures.1 in
    rw (p.1, p.2) (failure_among tree_of c.args.expressions.items c.loop-expression.yielded c.in-Some.expression c.next.new.self.rest.items c.in_err-tree_of.field-0.0 is c.in_err-tree_of.ensures.refused)
