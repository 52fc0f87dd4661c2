use Rattle.std.proofs.Common.{map}
use Rattle.vet_rules.proofs.Files.{rules_found, rules_only, rules_never, rules_fault}
use Rattle.vet_rules.proofs.rule.rules_of.Goals as goal

pub returns-clause-found : goal.returns-clause-found
returns-clause-found c = rules_found (map (λ x. x.now) c.args.lines.now) c.in_ok-findings.findings c.in_ok-findings.ensures c.rules_or_fault.result c.rules_or_fault.ensures

pub returns-clause-only : goal.returns-clause-only
returns-clause-only c = rules_only (map (λ x. x.now) c.args.lines.now) c.in_ok-findings.findings c.in_ok-findings.ensures c.rules_or_fault.result c.rules_or_fault.ensures

pub returns-clause-never : goal.returns-clause-never
returns-clause-never c = rules_never (map (λ x. x.now) c.args.lines.now) c.in_ok-findings.findings c.in_ok-findings.ensures c.rules_or_fault.result c.rules_or_fault.ensures

pub returns-clause-fault : goal.returns-clause-fault
returns-clause-fault c = rules_fault (map (λ x. x.now) c.args.lines.now) c.in_ok-findings.findings c.in_ok-findings.ensures c.rules_or_fault.result c.rules_or_fault.ensures
