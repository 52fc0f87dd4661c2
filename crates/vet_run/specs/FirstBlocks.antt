-- The block of the first record that breaks each rule.
use Rattle.std.specs.Prelude.{◌≡◌, ℕ, ◌+◌, ◌<◌, List, [], ◌∷◌, true, false, Option, Some, None, map}
use Rattle.std.specs.Prelude.{length, get_or, string_bytes}
use Rattle.serde_json.specs.Data.{Data}
use Rattle.predicates_core.specs.Formula.{truth}
use Rattle.predicates_core.specs.Shows.{Explains}
use Rattle.vet_checks.specs.declared.rule_check.RuleCheck.{RuleCheck}
use Rattle.vet_run.specs.InputLines.{record_taken}
use Rattle.vet_run.specs.Records.{formula_on, IsBlockOf, IsShown}
use Rattle.vet_run.specs.declared.job.Job.{Job}
use Rattle.vet_run.specs.declared.record.Shown.{Shown}
use Rattle.vet_run.specs.declared.tally.Tally.{Tally}

-- the block of one rule that the record breaks
pub record IsRuleBlock (j : Job) (r : RuleCheck) (number : ℕ) (d : Data)
    (text : List ℕ) : Type 0 where
  pub case : Shown
  pub explains : IsShown Explains d r case
  pub is : IsBlockOf j number d (case ∷ []) text

-- what a rule has once a record is taken: what it had, where that is a block or the record keeps
-- the rule; else its block
pub record TakesFirst (j : Job) (r : RuleCheck) (number : ℕ) (d : Data)
    (old new : List ℕ) : Type 0 where
  pub has : 0 < length old → new ≡ old
  pub keeps : truth (formula_on d r) ≡ true → new ≡ old
  pub breaks : old ≡ [] → truth (formula_on d r) ≡ false → IsRuleBlock j r number d new

-- the block at the place
abbrev pub block_at : List (List ℕ) → ℕ → List ℕ
block_at blocks k = get_or blocks k []

-- the same of each rule that has a place
pub record TakesFirsts (j : Job) (number : ℕ) (d : Data) (old new : List (List ℕ)) : Type 0 where
  pub long : length new ≡ length old
  pub each : (k : ℕ) (r : RuleCheck) → k < length old → k < length j.rules.now
      → r ≡ get_or j.rules.now k r
      → TakesFirst j r number d (block_at old k) (block_at new k)

-- the same of what stands on a line
abbrev pub TakesOn : Job → ℕ → Option Data → List (List ℕ) → List (List ℕ) → Type 0
TakesOn j number None old new = new ≡ old
TakesOn j number (Some d) old new = TakesFirsts j number d old new

-- the lines from this number on are taken, one after another
abbrev pub AreFirsts : Job → ℕ → List (Option (List ℕ)) → List (List ℕ) → List (List ℕ) → Type 0
AreFirsts j number [] before after = after ≡ before
AreFirsts j number (l ∷ ls) before after =
    (now : List (List ℕ))
    × TakesOn j number (record_taken l) before now
    × AreFirsts j (number + 1) ls now after

-- the blocks that a tally has
abbrev pub blocks_of : Tally → List (List ℕ)
blocks_of t = map string_bytes t.firsts.items
