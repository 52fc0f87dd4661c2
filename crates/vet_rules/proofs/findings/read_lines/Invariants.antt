use Rattle.std.proofs.Common.{◌≤◌, length, map}
use Rattle.vet_rules.specs.Faults.{HasRead}
use Rattle.vet_rules.specs.Findings.{rules_in}
use Rattle.vet_rules.proofs.findings.read_lines.Given as goal

abbrev pub invariant-loop-i : goal.invariant-loop-i
invariant-loop-i l =
    HasRead (map (λ x. x.now) l.lines) l.i (rules_in l.findings) l.findings.faults.items
    × (length l.findings.faults.items ≤ l.most)
