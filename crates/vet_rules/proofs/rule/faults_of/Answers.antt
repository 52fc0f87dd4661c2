use Rattle.std.proofs.Common.{map}
use Rattle.vet_rules.proofs.Files.{faults_found}
use Rattle.vet_rules.proofs.rule.faults_of.Goals as goal

pub returns : goal.returns
returns c = faults_found (map (λ x. x.now) c.args.lines.now) c.in_ok-findings.findings c.in_ok-findings.ensures
