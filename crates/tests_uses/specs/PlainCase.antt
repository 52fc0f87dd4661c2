-- What is found for a check in a plainer form than it was written in.
use Rattle.std.specs.Prelude.{◌≡◌, ℕ, Bool, not, List, Option, MatchOption}
use Rattle.predicates_core.specs.Label.{Entry}
use Rattle.predicates_core.specs.Formula.{Formula, truth}
use Rattle.predicates_core.specs.Kinds.{reasons}
use Rattle.predicates_core.specs.Reason.{IsFirstReason}
use Rattle.predicates_core.specs.Tree.{Tree}
use Rattle.predicates_core.specs.Describe.{CaseNode}
use Rattle.predicates_core.specs.Shows.{Shows}
use Rattle.predicates.specs.Laws.{twice_opposite, under_name}
use Rattle.tests_uses.specs.declared.plain_case.Around.{Around}
use Rattle.tests_uses.specs.declared.plain_case.Around.TheVariants.{Name, TwoNegations}

-- the formula as it was written, over that of the check alone
abbrev pub written : Around → Entry → Formula → Formula
written (Name name) printed f = under_name name.now f
written TwoNegations printed f = twice_opposite printed f

-- each formula of the check has this truth as it was written
pub record HasTruthAs (F : Formula → Type 0) (as_written : Formula → Formula) (b : Bool) : Type 0
  where
    pub at : (f : Formula) → F f → truth (as_written f) ≡ b

-- the case shows the plain formula cut down to the leaves that explain the written one
pub record ShowsReasonOf (as_written plain : Formula) (c : Tree CaseNode) : Type 0 where
  pub leaves : List ℕ
  pub first : IsFirstReason as_written leaves
  pub shown : Shows reasons plain c leaves

pub record IsPlainCaseOf (F : Formula → Type 0) (as_written : Formula → Formula) (b : Bool)
    (c : Tree CaseNode) : Type 0 where
  pub truth : HasTruthAs F as_written b
  pub explains : (f : Formula) → F f → ShowsReasonOf (as_written f) f c

-- a case where the check has the expected truth as it was written, and none where it has the
-- opposite
abbrev pub IsPlainAnswer : (Formula → Type 0) → (Formula → Formula) → Bool → Option (Tree CaseNode)
    → Type 0
IsPlainAnswer F as_written expected found = MatchOption found
    (HasTruthAs F as_written (not expected)) (IsPlainCaseOf F as_written expected)
