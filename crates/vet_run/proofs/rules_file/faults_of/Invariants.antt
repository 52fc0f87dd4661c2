use Rattle.std.proofs.Common.{◌≡◌, ◌≤◌, length, map}
use Rattle.vet_rules.specs.Rules.{lines_of}
use Rattle.vet_run.specs.RulesFile.{most_told}
use Rattle.vet_run.proofs.Rejecting.{Going}
use Rattle.vet_run.proofs.rules_file.faults_of.Given as goal

abbrev pub invariant-loop-index : goal.invariant-loop-index
invariant-loop-index l =
    (map (λ x. x.now) l.line-items ≡ lines_of l.text)
    × Going (map (λ x. x.now) l.line-items) l.index l.others.items l.faults.items
    × (length l.faults.items ≤ most_told)
