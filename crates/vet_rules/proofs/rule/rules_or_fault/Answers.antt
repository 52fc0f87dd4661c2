use Rattle.std.proofs.Common.{sym, ◌∙◌, arith}
use Rattle.std.proofs.lemmas.Bool.{eqb-true}
use Rattle.vet_rules.proofs.Files.{none_is, bare_rules}
use Rattle.vet_rules.proofs.rule.rules_or_fault.Goals as goal

pub returns-then-is_empty : goal.returns-then-is_empty
returns-then-is_empty c =
    (none_is c.args.findings.faults.items (omega (arith, eqb-true c.args.findings.faults.len 0 (sym c.is_empty.ensures ∙ c.if-is_empty.true))), c.in_ok-unnumbered.ensures ∙ bare_rules c.args.findings.rules.entries)
