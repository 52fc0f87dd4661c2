-- What was found in lines so far.
use Rattle.std.specs.Prelude.{◌≡◌, ℕ, ◌<◌, ◌≤◌, List, [], ◌∷◌, ◌++◌, map, length, Vec, String, string_bytes}
use Rattle.std.specs.Prelude.{Result, Ok, Err}
use Rattle.std.specs.declared.alloc.Global.{Global}
use Rattle.vet_rules.specs.declared.fault.Fault.{Fault}
use Rattle.vet_rules.specs.declared.findings.Numbered.{Numbered}
use Rattle.vet_rules.specs.declared.findings.Findings.{Findings}
use Rattle.vet_rules.specs.declared.rule.Rule.{Rule}
use Rattle.vet_rules.specs.declared.error.RulesError.{RulesError}
use Rattle.vet_rules.specs.declared.error.RulesError.TheVariants.{NoMemory, Unreadable}
use Rattle.vet_rules.specs.Trees.{tree_of}
use Rattle.vet_rules.specs.Rules.{rule_of}
use Rattle.vet_rules.specs.Faults.{Placed, bare, Adds, HasRead}

abbrev pub numbered_of : String Global × Numbered → Placed
numbered_of n = (n.1.line, (string_bytes n.0, tree_of n.1.expression))

abbrev pub rules_in : Findings → List Placed
rules_in findings = map numbered_of findings.rules.entries

-- with what a line adds
abbrev pub HasAdded : ℕ → List ℕ → Findings → Findings → Type 0
HasAdded number line before after =
    (rs : List Placed) × (fs : List Fault) × Adds number line (rules_in before) rs fs
    × (rules_in after ≡ rules_in before ++ rs)
    × (after.faults.items ≡ before.faults.items ++ fs)

-- what lines have up to the last fault of so many
abbrev pub HasFound : ℕ → List (List ℕ) → Findings → Type 0
HasFound most lines findings = (i : ℕ) × HasRead lines i (rules_in findings) findings.faults.items
    × (length findings.faults.items < most → length lines ≤ i)
    × (length findings.faults.items ≤ most)

-- the rules where there are no faults, and else the first fault, unless memory ran out
abbrev pub IsOutcome : List Placed → List Fault → Result (Vec Rule Global) RulesError → Type 0
IsOutcome rs fs (Ok v) = (fs ≡ []) × (map rule_of v.items ≡ bare rs)
IsOutcome rs fs (Err NoMemory) = Unit {0}
IsOutcome rs fs (Err (Unreadable f)) = (others : List Fault) × (fs ≡ f ∷ others)
