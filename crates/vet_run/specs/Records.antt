-- What is written for one record.
use Rattle.std.specs.Prelude.{◌≡◌, ◌⊎◌, ℕ, List, [], ◌∷◌, ◌++◌, ◌==◌, Bool, true, false, ◌&&◌}
use Rattle.std.specs.Prelude.{⊤, Option, Some, cond, take, length, codes, flat_map}
use Rattle.std.specs.List.{AllZip}
use mathlib.Core.Bool.{beq}
use Rattle.serde_json.specs.Data.{Data}
use Rattle.predicates_core.specs.Formula.{Formula, truth, HasTruth}
use Rattle.predicates_core.specs.Leaves.{IsExactly}
use Rattle.predicates_core.specs.Tree.{Tree}
use Rattle.predicates_core.specs.Describe.{CaseNode}
use Rattle.predicates_style.specs.StyledLines.{styled_lines}
use Rattle.predicates_style.specs.declared.style.Style.{Style}
use Rattle.predicates_core.specs.Shows.{Explains, IsNode}
use Rattle.predicates_core.specs.Change.{ExplainsChange}
use Rattle.vet_checks.specs.RuleChecks.{rule_formula, name_of, tree_of_rule}
use Rattle.vet_checks.specs.Scopes.{alone}
use Rattle.vet_checks.specs.declared.rule_check.RuleCheck.{RuleCheck}
use Rattle.vet_run.specs.declared.job.Job.{Job}
use Rattle.vet_run.specs.declared.record.Shown.{Shown}
use Rattle.vet_run.specs.declared.settings.Report.{Report}
use Rattle.vet_run.specs.declared.settings.Report.TheVariants.{First, All, Change, Json}
use Rattle.vet_run.specs.declared.settings.Report.TheVariants.{Lines, GitHub, JUnit}
use Rattle.vet_run.specs.GitHub.{file_of, line_of, opening, error_line, title}
use Rattle.vet_run.specs.InputLines.{ended}
use Rattle.vet_run.specs.Objects.{object_text}
use Rattle.vet_run.specs.Places.{place_text, IsHead, IsName}
use Rattle.vet_run.specs.Settings.{id_of, source_of, style_of}

-- the formula of a rule on a record
abbrev pub formula_on : Data → RuleCheck → Formula
formula_on d r = rule_formula (name_of r) (tree_of_rule r) (alone d)

-- whether the record keeps every rule
abbrev pub keeps : List RuleCheck → Data → Bool
keeps [] d = true
keeps (r ∷ rs) d = truth (formula_on d r) && keeps rs d

-- the rules that the record breaks, in their order
abbrev pub broken : List RuleCheck → Data → List RuleCheck
broken [] d = []
broken (r ∷ rs) d = cond (truth (formula_on d r)) (broken rs d) (r ∷ broken rs d)

-- what is shown of a rule: a case of which something holds, or, where memory is refused for that, a
-- node with the rule's name
abbrev pub IsShownOf : (Formula → Tree CaseNode → Type 0) → Data → RuleCheck → Bool
    → Tree CaseNode → Type 0
IsShownOf E d r false c = E (formula_on d r) c
IsShownOf E d r true c = IsNode (Some (name_of r)) false [] c

abbrev pub IsShown : (Formula → Tree CaseNode → Type 0) → Data → RuleCheck → Shown → Type 0
IsShown E d r s = IsShownOf E d r s.refused s.case

-- one is added of the rule, unless the record keeps it
abbrev pub AddsShown : (Formula → Tree CaseNode → Type 0) → Data → RuleCheck → List Shown
    → List Shown → Type 0
AddsShown E d r old new =
    ((s : Shown) × (new ≡ old ++ s ∷ []) × IsShown E d r s)
    ⊎ ((new ≡ old) × HasTruth (IsExactly (formula_on d r)) true)

-- the record breaks each of the rules
abbrev pub AreBroken : Data → List RuleCheck → Type 0
AreBroken d [] = ⊤
AreBroken d (r ∷ rs) = (truth (formula_on d r) ≡ false) × AreBroken d rs

-- all of them, or the first
abbrev pub shown : {X : Type 0} → Bool → List X → List X
shown all xs = cond all xs (take 1 xs)

-- what says that memory was refused for a case
abbrev pub refused_text : Bool → List ℕ
refused_text false = []
refused_text true = codes "  no memory to show why\n"

-- the lines of what is shown of a rule
unfoldable pub shown_lines : Style → Shown → List ℕ
shown_lines style s = styled_lines style s.case ++ refused_text s.refused

-- the line with what heads it, and the lines of each case
abbrev pub block : Style → List ℕ → List Shown → List ℕ
block style head cases = head ++ (codes ": false\n" ++ flat_map (shown_lines style) cases)

-- what heads the block of the record on the line of this number
abbrev pub HeadsRecord : Job → ℕ → Data → List ℕ → Type 0
HeadsRecord j number d text = IsHead (id_of j.settings.now) (place_text (source_of j) number) d text

-- the block of a record's cases; nothing where there is no case
abbrev pub IsBlockOf : Job → ℕ → Data → List Shown → List ℕ → Type 0
IsBlockOf j number d [] text = text ≡ []
IsBlockOf j number d (c ∷ cs) text =
    (head : List ℕ) × HeadsRecord j number d head × (text ≡ block (style_of j) head (c ∷ cs))

-- the block of the rules that a record breaks, of all or of the first
pub record IsBlock (j : Job) (all : Bool) (number : ℕ) (d : Data) (written : List ℕ) : Type 0 where
  pub cases : List Shown
  pub explain : AllZip (IsShown Explains d) (shown all (broken j.rules.now d)) cases
  pub is : IsBlockOf j number d cases written

-- the block of what would have to change in each rule that a record breaks: that is the first
-- change of all rules together
pub record IsChangeBlock (j : Job) (number : ℕ) (d : Data) (written : List ℕ) : Type 0 where
  pub cases : List Shown
  pub explain : AllZip (IsShown ExplainsChange d) (broken j.rules.now d) cases
  pub is : IsBlockOf j number d cases written

-- the object of the cases; nothing where there is no case and the failed alone are wanted
abbrev pub wanted_text : Bool → Option (List ℕ) → List ℕ → Bool → List Shown → List ℕ
wanted_text failed source name all cases =
    cond (failed && (length cases == 0)) []
    (object_text source name (length cases == 0) all cases)

-- the object of the rules that a record breaks, of all or of the first; nothing of a record that
-- keeps every rule where the failed alone are wanted
pub record IsObject (j : Job) (all failed : Bool) (number : ℕ) (d : Data)
    (written : List ℕ) : Type 0 where
  pub cases : List Shown
  pub explain : AllZip (IsShown Explains d) (shown all (broken j.rules.now d)) cases
  pub name : List ℕ
  pub named : IsName (id_of j.settings.now) number d name
  pub is : written ≡ wanted_text failed (source_of j) name all cases

-- the line that GitHub shows of a case
abbrev pub error_of : Style → Option (List ℕ) → Option ℕ → List ℕ → Shown → List ℕ
error_of style source line opening s =
    error_line source line (title s.case) (opening ++ shown_lines style s)

-- a line for each rule that a record breaks, of all or of the first
pub record IsErrors (j : Job) (all : Bool) (number : ℕ) (d : Data) (written : List ℕ) : Type 0 where
  pub cases : List Shown
  pub explain : AllZip (IsShown Explains d) (shown all (broken j.rules.now d)) cases
  pub head : List ℕ
  pub heads : HeadsRecord j number d head
  pub is : written ≡ flat_map (error_of (style_of j) (file_of (source_of j))
      (line_of j.format number)
      (opening (file_of (source_of j)) (line_of j.format number) (id_of j.settings.now) head))
      cases

-- what is written for the record of this number, which stands on the line
abbrev pub IsReport : Report → Job → ℕ → List ℕ → Data → List ℕ → Type 0
IsReport First j number line d written = IsBlock j false number d written
IsReport All j number line d written = IsBlock j true number d written
IsReport Change j number line d written = IsChangeBlock j number d written
IsReport (Json all failed) j number line d written = IsObject j all failed number d written
IsReport (GitHub all) j number line d written = IsErrors j all number d written
IsReport JUnit j number line d written = written ≡ []
IsReport (Lines wanted) j number line d written =
    written ≡ cond (beq (keeps j.rules.now d) wanted) (ended line) []

-- nothing where there is no room for more
abbrev pub IsWritten : Job → Bool → ℕ → List ℕ → Data → List ℕ → Type 0
IsWritten j false number line d written = written ≡ []
IsWritten j true number line d written = IsReport j.settings.now.report j number line d written
