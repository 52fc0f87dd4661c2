-- Things that are told apart by the truths of their formulas.
use Rattle.std.specs.Prelude.{◌≡◌, Bool, true, false, not, List, [], ◌∷◌, ◌++◌, map, filter, All}
use Rattle.predicates_core.specs.Formula.{Formula, HasTruth, truth}
use Rattle.predicates_core.specs.Tree.{Tree}
use Rattle.predicates_core.specs.Describe.{CaseNode}
use Rattle.predicates_core.specs.Shows.{IsCaseOf}

-- the two lists are as long, and the first of one goes with the first of the other, and so on
abbrev pub AreEach : {A B : Type 0} → (A → B → Type 0) → List A → List B → Type 0
AreEach R [] [] = Unit {0}
AreEach R [] (y ∷ ys) = ⊥
AreEach R (x ∷ xs) [] = ⊥
AreEach R (x ∷ xs) (y ∷ ys) = R x y × AreEach R xs ys

-- a thing, and whether its formulas are true
abbrev pub Mark : Type 0 → Type 0
Mark A = A × Bool

-- each thing is marked by the truth of its formulas: those that hold are the things marked true,
-- and each thing marked false has its report, all in order
pub record AreTold {A B : Type 0} (F : A → Formula → Type 0) (IsReport : A → B → Type 0)
    (things hold : List A) (reports : List B) : Type 0 where
  pub marks : List (Mark A)
  pub of_things : map (λ m. m.0) marks ≡ things
  pub truths : All (λ m. HasTruth (F m.0) m.1) marks
  pub stay : hold ≡ map (λ m. m.0) (filter (λ m. m.1) marks)
  pub each : AreEach IsReport (map (λ m. m.0) (filter (λ m. not m.1) marks)) reports

-- a report for each of the things that do not hold, in order
pub record HasFailures {A B : Type 0} (F : A → Formula → Type 0) (IsReport : A → B → Type 0)
    (things : List A) (reports : List B) : Type 0 where
  pub hold : List A
  pub told : AreTold F IsReport things hold reports

-- the formulas that a rule has on the item
abbrev pub about : {P Item : Type 0} → (P → Item → Formula → Type 0) → Item → P → Formula → Type 0
about formula item rule = formula rule item

-- the rule is infallible on the item, and has a formula there that is true
abbrev pub HoldsInfallibly : {P Item : Type 0} → (P → Item → Type 0) → (P → Item → Formula → Type 0)
    → Item → P → Type 0
HoldsInfallibly infallible formula item rule =
    infallible rule item × ((f : Formula) × formula rule item f × (truth f ≡ true))

-- a case that explains why the thing does not hold
abbrev pub Explains : {A : Type 0} → (A → Formula → Type 0) → A → Tree CaseNode → Type 0
Explains F thing case = IsCaseOf (F thing) false case

-- what one rule adds to some cases: nothing where its formulas are true, and a case that explains
-- it where they are false
pub data IsAdded (F : Formula → Type 0) (old new : List (Tree CaseNode)) : Type 0 where
  none : HasTruth F true → new ≡ old → IsAdded F old new
  one : (case : Tree CaseNode) → IsCaseOf F false case → new ≡ old ++ case ∷ [] → IsAdded F old new
