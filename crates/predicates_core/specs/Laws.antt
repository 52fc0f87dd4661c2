-- Laws of formulas, of their first reasons and changes, and of the cases that show these.
use Rattle.std.specs.Prelude.{◌≡◌, ◌↔◌, ℕ, List, Bool, true, false, cond, Option, Some, None, length}
use mathlib.Core.Bool.{beq}
use Rattle.predicates_core.specs.Describe.{CaseNode}
use Rattle.predicates_core.specs.Formula.{Formula, Formulas, one, more, Join, AtLeast, needed}
use Rattle.predicates_core.specs.Formula.{number_of_parts, enough_of, truth}
use Rattle.predicates_core.specs.First.{IsMinimal}
use Rattle.predicates_core.specs.Kinds.{reasons, changes, HasOneFirst}
use Rattle.predicates_core.specs.Label.{Label}
use Rattle.predicates_core.specs.Reason.{IsReason, IsMinimalReason}
use Rattle.predicates_core.specs.declared.custom.join.Operator.{Operator}
use Rattle.predicates_core.specs.declared.custom.join.Operator.TheVariants.{And, Or}
use Rattle.predicates_core.specs.Shows.{Explains}
use Rattle.predicates_core.specs.Tree.{Tree, empty, branch, named_trees}

-- each formula has exactly one first reason and one first change
abbrev pub FirstReasons : Type 0
FirstReasons = (f : Formula) → HasOneFirst reasons f

abbrev pub FirstChanges : Type 0
FirstChanges = (f : Formula) → HasOneFirst changes f

-- a reason from which no leaf can be dropped is one from which no leaves can
abbrev pub MinimalReasons : Type 0
MinimalReasons = (f : Formula) (leaves : List ℕ)
    → IsMinimalReason f leaves ↔ IsMinimal (IsReason f) leaves

-- the operator by which one part with the truth decides the whole
abbrev pub decided_by : Bool → Operator
decided_by true = Or
decided_by false = And

-- the first part with the truth, if there is one, and its name
abbrev pub first_with : Bool → Formulas → Option (List ℕ × Formula)
first_with b (one name f) = cond (beq (truth f) b) (Some (name, f)) None
first_with b (more name f fs) = cond (beq (truth f) b) (Some (name, f)) (first_with b fs)

-- the only child of the case is that of the first part with the truth, and explains it
pub record ShowsFirstAlone (b : Bool) (fs : Formulas) (t : Tree CaseNode) : Type 0 where
  pub name : List ℕ
  pub part : Formula
  pub case : Tree CaseNode
  pub is_first : first_with b fs ≡ Some (name, part)
  pub alone : t.children ≡ branch name case.root case.children empty
  pub explained : Explains part case

-- where one part decides, the case has the first that does as its only child
abbrev pub OneChild : Type 0
OneChild = (decides : Bool) (label : Label) (fs : Formulas) (t : Tree CaseNode)
    → truth (Join (decided_by decides) label fs) ≡ decides
    → Explains (Join (decided_by decides) label fs) t → ShowsFirstAlone decides fs t

-- the case of a threshold has as many children as decide it: so many that hold as are needed, or of
-- those that fail one more than may
abbrev pub EnoughChildren : Type 0
EnoughChildren = (k : ℕ) (label : Label) (fs : Formulas) (t : Tree CaseNode)
    → Explains (AtLeast k label fs) t
    → length (named_trees t.children)
    ≡ enough_of (truth (AtLeast k label fs)) (needed k fs) (number_of_parts fs)
