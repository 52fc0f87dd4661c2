-- What the changes of the rules that a record breaks are together.
use Rattle.std.specs.Prelude.{◌≡◌, ◌⊎◌, ℕ, suc, ◌+◌, List, [], ◌∷◌, ◌++◌, map, length, true, false}
use Rattle.std.specs.List.{AllZip}
use Rattle.serde_json.specs.Data.{Data}
use Rattle.predicates_core.specs.Label.{Label}
use Rattle.predicates_core.specs.Formula.{Formula, AtLeast, size, truth}
use Rattle.predicates_core.specs.Kinds.{changes}
use Rattle.predicates_core.specs.Change.{ExplainsChange, IsFirstChange}
use Rattle.predicates_core.specs.Several.{formulas_of}
use Rattle.predicates_core.specs.Shows.{Shows}
use Rattle.predicates_core.specs.Tree.{Tree}
use Rattle.predicates_core.specs.Describe.{CaseNode}
use Rattle.vet_checks.specs.declared.rule_check.RuleCheck.{RuleCheck}
use Rattle.vet_run.specs.Records.{formula_on, keeps, broken}

-- the formula of all rules together, each of which has to hold
abbrev pub formula_of_all : Label → List ℕ → Data → RuleCheck → List RuleCheck → Formula
formula_of_all label name d r rs =
    AtLeast (suc (length rs)) label (formulas_of name (formula_on d) r rs)

-- The leaves, which are numbered over all rules, are in turn those that each case shows of its
-- rule; a case is there for each rule that the record breaks, and of the others no leaf.
abbrev pub AreShownBy : Data → List RuleCheck → List (Tree CaseNode) → List ℕ → Type 0
AreShownBy d [] cases leaves = (cases ≡ []) × (leaves ≡ [])
AreShownBy d (r ∷ rs) cases leaves = (own : List ℕ) × (others : List ℕ)
    × (leaves ≡ own ++ map (λ k. size (formula_on d r) + k) others)
    × (((truth (formula_on d r) ≡ true) × (own ≡ []) × AreShownBy d rs cases others)
    ⊎ ((truth (formula_on d r) ≡ false) × ((c : Tree CaseNode) × (cs : List (Tree CaseNode))
    × (cases ≡ c ∷ cs) × Shows changes (formula_on d r) c own × AreShownBy d rs cs others)))

-- the cases that show what would turn each broken rule show together the first change of all rules
abbrev pub ShowTogether : Type 0
ShowTogether = (label : Label) (name : List ℕ) (d : Data) (r : RuleCheck) (rs : List RuleCheck)
    (cases : List (Tree CaseNode)) → keeps (r ∷ rs) d ≡ false
    → AllZip ExplainsChange (map (formula_on d) (broken (r ∷ rs) d)) cases
    → (leaves : List ℕ) × IsFirstChange (formula_of_all label name d r rs) leaves
    × AreShownBy d (r ∷ rs) cases leaves
