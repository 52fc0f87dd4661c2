-- Which rules a record breaks.
use Rattle.std.specs.Prelude.{◌≡◌, ◌≢◌, ◌==◌, ◌<◌, ◌&&◌, ◌||◌, ℕ, ◌+◌, List, [], ◌∷◌, ◌++◌, Bool, true, false, not}
use Rattle.std.specs.Prelude.{cond, length, slice_index, slice_set}
use Rattle.serde_json.specs.Data.{Data}
use Rattle.predicates_core.specs.Formula.{truth, HasTruth}
use Rattle.predicates_core.specs.Leaves.{IsExactly}
use Rattle.vet_checks.specs.declared.rule_check.RuleCheck.{RuleCheck}
use Rattle.vet_run.specs.FirstBlocks.{TakesFirst, block_at}
use Rattle.vet_run.specs.Records.{formula_on, shown}
use Rattle.vet_run.specs.declared.job.Job.{Job}
use Rattle.vet_run.specs.Settings.{shows_all}
use Rattle.vet_run.specs.declared.judgement.Broken.{Broken}
use Rattle.vet_run.specs.declared.settings.Report.{Report}

-- a rule, and its place among the rules
abbrev pub Placed : Type 0
Placed = ℕ × RuleCheck

-- the same, as a judgement has it
abbrev pub placed : Broken → Placed
placed b = (b.place, b.rule.now)

abbrev pub rule_of : Broken → RuleCheck
rule_of b = b.rule.now

-- the rules that the record breaks, of those from this place on
abbrev pub broken_from : ℕ → List RuleCheck → Data → List Placed
broken_from place [] d = []
broken_from place (r ∷ rs) d =
    cond (truth (formula_on d r)) (broken_from (place + 1) rs d)
    ((place, r) ∷ broken_from (place + 1) rs d)

-- a rule is added where the record breaks it
abbrev pub AddsBroken : Data → RuleCheck → ℕ → List Placed → List Placed → Bool → Type 0
AddsBroken d r place old new true =
    (new ≡ old ++ (place, r) ∷ []) × HasTruth (IsExactly (formula_on d r)) false
AddsBroken d r place old new false = (new ≡ old) × HasTruth (IsExactly (formula_on d r)) true

-- all rules that the record breaks are known, or the first
abbrev pub IsJudged : Bool → List RuleCheck → Data → List Placed → Type 0
IsJudged all rules d broken = shown all broken ≡ shown all (broken_from 0 rules d)

-- whether every rule has to be asked: where all that are broken are shown, or something is kept for
-- each rule
abbrev pub asks_all : Report → Bool → List ℕ → List (List ℕ) → Bool
asks_all report room counts blocks =
    (room && shows_all report) || (not (length counts == 0) || not (length blocks == 0))

-- one more is counted at the place, where there is one
abbrev pub counted_at : ℕ → List ℕ → List ℕ
counted_at place counts = slice_set counts place (slice_index counts place + 1)

-- one more is counted for each of the rules
abbrev pub counted_each : List Placed → List ℕ → List ℕ
counted_each [] counts = counts
counted_each (b ∷ bs) counts = counted_each bs (counted_at b.0 counts)

-- the rule has its block where it has a place, and the others have what they had
pub record TakesAt (j : Job) (number : ℕ) (d : Data) (b : Placed)
    (old new : List (List ℕ)) : Type 0 where
  pub long : length new ≡ length old
  pub here : b.0 < length old
      → TakesFirst j b.1 number d (block_at old b.0) (block_at new b.0)
  pub others : (k : ℕ) → k ≢ b.0 → block_at new k ≡ block_at old k

-- the same of each of the rules
abbrev pub TakesEach : Job → ℕ → Data → List Placed → List (List ℕ) → List (List ℕ) → Type 0
TakesEach j number d [] old new = new ≡ old
TakesEach j number d (b ∷ bs) old new =
    (now : List (List ℕ)) × TakesAt j number d b old now × TakesEach j number d bs now new
