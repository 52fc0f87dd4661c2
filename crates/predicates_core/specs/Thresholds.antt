-- The formulas of a predicate that holds where at least so many of its parts do.
use Rattle.std.specs.Prelude.{◌≡◌, ◌⊎◌, ℕ, ◌<◌, ◌≤◌, ◌&&◌, cond}
use Rattle.std.specs.Prelude.{nat_le, List, [], ◌∷◌, length, Option, Some, codes}
use Rattle.std.specs.Fmt.{decimal, ◌++?◌}
use Rattle.predicates_core.specs.Label.{Entry, plain, showing}
use Rattle.predicates_core.specs.Formula.{Formula, Formulas, Leaf, AtLeast}
use Rattle.predicates_core.specs.Leaves.{IsExactly}
use Rattle.predicates_core.specs.Several.{AreOfEach, formulas_of, further_texts}

-- whatever n parts answer, k of them hold or they do not
abbrev pub IsSettled : ℕ → ℕ → Type 0
IsSettled k n = (k ≡ 0) ⊎ (n < k)

-- then a leaf, which shows how many there are
abbrev pub settled : Entry → ℕ → ℕ → Formula
settled text k n = Leaf (showing text (codes "len") (Some (decimal n))) (nat_le k n)

-- f is a threshold over a formula of each member
pub record IsCounted {U : Type 0} (k : ℕ) (text : Entry) (name : List ℕ)
    (has : U → Formula → Type 0) (members : List U) (f : Formula) : Type 0 where
  pub formulas : Formulas
  pub of_each : AreOfEach name has members formulas
  pub is : f ≡ AtLeast k (plain text) formulas

-- f is a threshold over a formula of each member, or the leaf where the members settle nothing
pub record IsOfThreshold {U : Type 0} (k : ℕ) (text : Entry) (name : List ℕ)
    (has : U → Formula → Type 0) (members : List U) (f : Formula) : Type 0 where
  pub of_settled : IsSettled k (length members) → IsExactly (settled text k (length members)) f
  pub of_counted : 1 ≤ k → k ≤ length members → IsCounted k text name has members f

-- the one formula, where each member has one
abbrev pub threshold_formula : {U : Type 0} → ℕ → Entry → List ℕ → (U → Formula) → List U → Formula
threshold_formula k text name g [] = settled text k 0
threshold_formula k text name g (u ∷ us) = cond (nat_le 1 k && nat_le k (length (u ∷ us)))
    (AtLeast k (plain text) (formulas_of name g u us)) (settled text k (length (u ∷ us)))

-- the number and the texts, in parentheses behind a word
abbrev pub counted_text : List ℕ → ℕ → List (Option (List ℕ)) → Option (List ℕ)
counted_text word k ts = Some word ++? Some (codes "(") ++? Some (decimal k) ++? further_texts ts
    ++? Some (codes ")")
