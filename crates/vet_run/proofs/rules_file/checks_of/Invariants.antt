use Rattle.std.proofs.Common.{◌≡◌, ◌++◌, map}
use Rattle.std.specs.List.{AllZip}
use Rattle.vet_rules.specs.Rules.{rule_of}
use Rattle.vet_run.specs.RulesFile.{IsCheckOf}
use Rattle.vet_run.proofs.rules_file.checks_of.Given as goal

abbrev pub invariant-loop-rule : goal.invariant-loop-rule
invariant-loop-rule l =
    (l.fn.rules.items ≡ l.yielded ++ l.rule-iterator.rest.items)
    × AllZip IsCheckOf (map rule_of l.yielded) l.checks.items
