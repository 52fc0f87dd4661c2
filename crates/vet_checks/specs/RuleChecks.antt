-- The formula of a rule.
use Rattle.std.specs.Prelude.{ℕ, List, Some, codes, string_bytes}
use Rattle.predicates_core.specs.Label.{plain}
use Rattle.predicates_core.specs.Formula.{Formula, Named}
use Rattle.vet_checks.specs.Scopes.{Place}
use Rattle.vet_checks.specs.CheckTrees.{CheckTree, check_formula}
use Rattle.vet_checks.specs.Checks.{tree_of_check}
use Rattle.vet_checks.specs.declared.rule_check.RuleCheck.{RuleCheck}

abbrev pub name_of : RuleCheck → List ℕ
name_of r = string_bytes r.name

abbrev pub tree_of_rule : RuleCheck → CheckTree
tree_of_rule r = tree_of_check r.check

-- the formula of the check, under `rule`
abbrev pub rule_formula : List ℕ → CheckTree → Place → Formula
rule_formula name e p = Named (plain (Some name)) (codes "rule") (check_formula e p)
