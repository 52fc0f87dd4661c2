-- What runs count.
use Rattle.std.specs.Prelude.{nat_lt, ◌≡◌, ◌||◌, ℕ, ◌+◌, ◌-◌, List, [], ◌∷◌, Bool, true, false, not}
use Rattle.std.specs.Prelude.{Option, Some, None, if◌then◌else◌, filter, length, is_some}
use Rattle.std.specs.Prelude.{option_map}
use Rattle.serde_json.specs.Data.{Data}
use Rattle.predicates_core.specs.Formula.{truth}
use Rattle.vet_checks.specs.declared.rule_check.RuleCheck.{RuleCheck}
use Rattle.vet_run.specs.InputLines.{record_taken, is_unreadable}
use Rattle.vet_run.specs.Records.{keeps, formula_on}
use Rattle.vet_run.specs.declared.counts.Counts.{Counts}

-- ---- lines

abbrev pub is_false : Option Bool → Bool
is_false None = false
is_false (Some b) = not b

-- whether the record on the line breaks a rule
abbrev pub breaks : List RuleCheck → Option Data → Bool
breaks rules None = false
breaks rules (Some d) = not (keeps rules d)

abbrev pub one_if : Bool → ℕ
one_if b = if b then 1 else 0

-- one line more is counted
pub record CountsOne (held : Option Bool) (blank : Bool) (before after : Counts) : Type 0 where
  pub records : after.records ≡ before.records + one_if (is_some held)
  pub failed : after.failed ≡ before.failed + one_if (is_false held)
  pub unreadable : after.unreadable ≡ before.unreadable + one_if (not (is_some held || blank))

-- of how many lines what is taken passes a test
abbrev pub number_of : (Option (List ℕ) → Bool) → List (Option (List ℕ)) → ℕ
number_of p lines = length (filter p lines)

-- the lines are counted beside those before
pub record AreCounted (rules : List RuleCheck) (lines : List (Option (List ℕ)))
    (before after : Counts) : Type 0 where
  pub records : after.records ≡ before.records + number_of (λ l. is_some (record_taken l)) lines
  pub failed : after.failed ≡ before.failed + number_of (λ l. breaks rules (record_taken l)) lines
  pub unreadable : after.unreadable ≡ before.unreadable + number_of is_unreadable lines

-- the status of a process after runs
abbrev pub status_of : Counts → ℕ
status_of counts =
    if nat_lt 0 counts.unreadable then 2
    else (if nat_lt 0 counts.failed then 1 else 0)

-- ---- rules

-- whether the record breaks the rule
abbrev pub breaks_one : RuleCheck → Option Data → Bool
breaks_one r None = false
breaks_one r (Some d) = not (truth (formula_on d r))

-- for each rule the number before, and one more where the record breaks it
abbrev pub one_counted : List RuleCheck → Option Data → List ℕ → List ℕ
one_counted rules o [] = []
one_counted [] o (n ∷ ns) = n ∷ ns
one_counted (r ∷ rules) o (n ∷ ns) = (n + one_if (breaks_one r o)) ∷ one_counted rules o ns

-- for each rule the number before, and that of the lines with a record that breaks it
abbrev pub all_counted : List RuleCheck → List (Option (List ℕ)) → List ℕ → List ℕ
all_counted rules lines [] = []
all_counted [] lines (n ∷ ns) = n ∷ ns
all_counted (r ∷ rules) lines (n ∷ ns) =
    (n + number_of (λ l. breaks_one r (record_taken l)) lines)
    ∷ all_counted rules lines ns

-- ---- how much is written

-- whether anything more may be written
abbrev pub has_room : Option ℕ → Bool
has_room None = true
has_room (Some n) = nat_lt 0 n

-- how much more may be written behind what is told, or not
abbrev pub left_after : Bool → Option ℕ → Option ℕ
left_after told left = if told then option_map (λ n. n - 1) left else left
