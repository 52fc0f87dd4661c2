-- The check of a rule of a file, and why none is made.
use Rattle.std.specs.Prelude.{◌≡◌, ◌≢◌, ◌⊎◌, ℕ, ◌+◌, ◌<◌, ◌≤◌, List, [], ◌∷◌, ◌++◌, map, length, drop}
use Rattle.std.specs.Prelude.{Option, Some, None, option_to_list, Any, codes, string_bytes, ◌==◌}
use Rattle.std.specs.List.{slice_split}
use Rattle.vet_rules.specs.declared.fault.Fault.{Fault}
use Rattle.vet_rules.specs.Trees.{Tree}
use Rattle.vet_rules.specs.Grammar.{max_depth}
use Rattle.vet_rules.specs.Rules.{IsLine, AreRulesOf, lines_of}
use Rattle.vet_rules.specs.Faults.{Placed, Adds}
use Rattle.vet_checks.specs.declared.pattern_fault.PatternFault.{PatternFault}
use Rattle.vet_checks.specs.CheckTrees.{CheckTree}
use Rattle.vet_checks.specs.Compiled.{IsTreeOf}
use Rattle.vet_checks.specs.Refusals.{IsPatternIn, IsRefused}
use Rattle.vet_checks.specs.RuleChecks.{name_of, tree_of_rule}
use Rattle.vet_checks.specs.declared.rule_check.RuleCheck.{RuleCheck}
use Rattle.vet_run.specs.declared.rule_fault.RuleFault.{RuleFault}
use Rattle.vet_run.specs.declared.rule_fault.RuleFault.TheVariants as rule_faults
use Rattle.vet_run.specs.declared.rules_file.ReadChecksError.{ReadChecksError}
use Rattle.vet_run.specs.declared.rules_file.ReadChecksError.TheVariants.{NoMemory}
use Rattle.vet_run.specs.declared.rules_file.ReadChecksError.TheVariants.{Unreadable}
use Rattle.vet_run.specs.RuleFaults.{rule_fault_text, joined_texts, texts_of_lines}
use Rattle.vet_run.specs.RuleFaults.{told_line}

-- it has the rule's name, and is the check of its expression
abbrev pub IsCheckOf : List ℕ × Tree → RuleCheck → Type 0
IsCheckOf r c = (name_of c ≡ r.0) × IsTreeOf r.1 (tree_of_rule c)

-- ---- why none is made

-- `regex` refuses a pattern of the rule
abbrev pub HasNoCheck : List ℕ × Tree → Type 0
HasNoCheck r =
    (fault : PatternFault) × IsPatternIn (string_bytes fault.pattern) r.1 × IsRefused fault

-- where the text says rules, one of them has such a pattern
abbrev pub SaysNoChecks : List ℕ → Type 0
SaysNoChecks text =
    (rs : List (List ℕ × Tree)) → AreRulesOf max_depth text rs → Any HasNoCheck rs

-- What is told of the rule on the line with this number: nothing where it has a check, else a
-- pattern of it that `regex` refuses.
abbrev pub IsToldOfRule : ℕ → List ℕ × Tree → Option RuleFault → Type 0
IsToldOfRule number r None = (c : CheckTree) × IsTreeOf r.1 c
IsToldOfRule number r (Some (rule_faults.Pattern line name fault)) = (line ≡ number)
    × (string_bytes name ≡ r.0) × IsPatternIn (string_bytes fault.pattern) r.1
    × IsRefused fault
IsToldOfRule number r (Some (rule_faults.Unreadable fault)) = ⊥
IsToldOfRule number r (Some rule_faults.More) = ⊥

-- the rule of the line with this number and what is told of it, behind lines with these rules
pub data Tells (number : ℕ) (line : List ℕ) (rs : List Placed) : List Placed → List RuleFault
    → Type 0 where
  -- that it says no rule, or one whose name is taken; nothing of a blank one
  no_rule : (fs : List Fault) → Adds number line rs [] fs
      → Tells number line rs [] (map (λ f. rule_faults.Unreadable f) fs)
  -- what is told of its rule
  a_rule : (r : List ℕ × Tree) (told : Option RuleFault)
      → Adds number line rs ((number, r) ∷ []) [] → IsToldOfRule number r told
      → Tells number line rs ((number, r) ∷ []) (option_to_list told)

-- the rules of the first lines, so many of them, and what is told of these, in their order
pub data HasTold (lines : List (List ℕ)) : ℕ → List Placed → List RuleFault → Type 0 where
  none_yet : HasTold lines 0 [] []
  one_line : {i : ℕ} {rs more : List Placed} {ts others : List RuleFault} {line : List ℕ}
      {rest : List (List ℕ)} → drop i lines ≡ line ∷ rest → HasTold lines i rs ts
      → Tells (i + 1) line rs more others → HasTold lines (i + 1) (rs ++ more) (ts ++ others)

-- how many faults of a file are told at most
abbrev pub most_told : ℕ
most_told = 20

-- what is told of lines where some have faults
pub data AreTold (lines : List (List ℕ)) : List RuleFault → Type 0 where
  -- the faults of all lines
  all_told : {i : ℕ} {rs : List Placed} {ts : List RuleFault} → HasTold lines i rs ts
      → length lines ≤ i → length ts ≤ most_told → AreTold lines ts
  -- the first ones, and that there are more
  more_told : {i : ℕ} {rs : List Placed} (ts : List RuleFault) (t : RuleFault)
      → HasTold lines i rs (ts ++ t ∷ []) → length ts ≡ most_told
      → AreTold lines (ts ++ rule_faults.More ∷ [])

-- some faults are told, those of the text, unless memory ran out
abbrev pub IsRefusalOf : List ℕ → ReadChecksError → Type 0
IsRefusalOf text NoMemory = Unit {0}
IsRefusalOf text (Unreadable faults) =
    (0 < length faults.items) × AreTold (lines_of text) faults.items

-- no check is made of some line of the text, and its faults are told, unless memory ran out
abbrev pub IsRejected : List ℕ → ReadChecksError → Type 0
IsRejected text NoMemory = Unit {0}
IsRejected text (Unreadable faults) =
    SaysNoChecks text × IsRefusalOf text (Unreadable faults)

-- ---- line by line

-- the last fault, where it is of the line with this number
abbrev pub IsTaken : ℕ → List Fault → List Fault → Option Fault → Type 0
IsTaken number before after (Some f) = (before ≡ after ++ f ∷ []) × (f.line ≡ number)
IsTaken number before after None = (after ≡ before)
    × ((fs : List Fault) (f : Fault) → before ≡ fs ++ f ∷ [] → f.line ≢ number)

-- it has no line feed
abbrev pub IsOneLine : List ℕ → Type 0
IsOneLine line = slice_split (λ b. b == 10) line ≡ line ∷ []

-- what is told of a line with this number that says a rule or is blank
abbrev pub IsToldOf : ℕ → Option (List ℕ × Tree) → Option RuleFault → Type 0
IsToldOf number None told = told ≡ None
IsToldOf number (Some r) told = IsToldOfRule number r told

-- the same of a line, whose rule is not known, which has no line feed
abbrev pub IsToldOn : ℕ → List ℕ → Option RuleFault → Type 0
IsToldOn number line told = (o : Option (List ℕ × Tree)) → IsOneLine line
    → IsLine max_depth line o → IsToldOf number o told

-- what is told of a line with this number, where these are the faults of lines from it on, the last
-- ones first
abbrev pub IsToldAt : ℕ → List ℕ → List Fault → List Fault → Option RuleFault → Type 0
IsToldAt number line before after told =
    ((f : Fault) × IsTaken number before after (Some f) × (told ≡ Some (rule_faults.Unreadable f)))
    ⊎ (IsTaken number before after None × IsToldOn number line told)

-- ---- what is told of it

-- a line for each fault, or that memory ran out
abbrev pub read_error_text : ReadChecksError → Option (List ℕ)
read_error_text NoMemory = Some (codes "no memory")
read_error_text (Unreadable faults) = texts_of_lines (map rule_fault_text faults.items)

-- the same, each a line of the program about the rules at the path
abbrev pub rules_fault_text : List ℕ → ReadChecksError → Option (List ℕ)
rules_fault_text path NoMemory = told_line path (Some (codes "no memory"))
rules_fault_text path (Unreadable faults) =
    joined_texts (map (λ fault. told_line path (rule_fault_text fault)) faults.items)
