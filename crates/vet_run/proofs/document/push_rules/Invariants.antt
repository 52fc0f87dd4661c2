use Rattle.std.proofs.Common.{◌≡◌, ◌++◌, drop, map}
use Rattle.std.specs.Prelude.{string_bytes}
use Rattle.vet_checks.specs.RuleChecks.{name_of}
use Rattle.vet_run.specs.JUnit.{rules_text}
use Rattle.vet_run.proofs.document.push_rules.Given as goal

abbrev pub invariant-loop-index : goal.invariant-loop-index
invariant-loop-index l =
    l.text.items ++ rules_text l.index (map name_of (drop l.index l.rules)) l.counts (map string_bytes l.blocks)
    ≡ l.initial.text.items ++ rules_text 0 (map name_of l.rules) l.counts (map string_bytes l.blocks)
