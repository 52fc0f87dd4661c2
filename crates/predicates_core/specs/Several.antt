-- The formulas of several members, each with a formula of its own.
use Rattle.std.specs.Prelude.{◌≡◌, ℕ, Bool, true, false, List, [], ◌∷◌, Option, Some, None, codes}
use Rattle.std.specs.Fmt.{◌++?◌}
use Rattle.predicates_core.specs.Formula.{Formula, Formulas, one, more}
use Rattle.predicates_core.specs.Tree.{Tree}
use Rattle.predicates_core.specs.Describe.{CaseNode}

-- each member has one of the formulas, in order and under the name
abbrev pub AreOfEach : {U : Type 0} → List ℕ → (U → Formula → Type 0) → List U → Formulas → Type 0
AreOfEach name has [] fs = ⊥
AreOfEach name has (u ∷ us) (one n f) = (n ≡ name) × has u f × (us ≡ [])
AreOfEach name has (u ∷ us) (more n f fs) = (n ≡ name) × has u f × AreOfEach name has us fs

-- the one formula, where each member has one
abbrev pub formulas_of : {U : Type 0} → List ℕ → (U → Formula) → U → List U → Formulas
formulas_of name g u [] = one name (g u)
formulas_of name g u (v ∷ us) = more name (g u) (formulas_of name g v us)

-- nothing was found of a part, whichever its truth
abbrev pub is_absent : Option Bool → Option (Tree CaseNode) → Bool
is_absent None None = true
is_absent None (Some t) = false
is_absent (Some wanted) found = false

-- the texts behind the first, each after a comma
abbrev pub further_texts : List (Option (List ℕ)) → Option (List ℕ)
further_texts [] = Some []
further_texts (t ∷ ts) = Some (codes ", ") ++? t ++? further_texts ts

-- the texts behind a word, in parentheses
abbrev pub listed_text : List ℕ → List (Option (List ℕ)) → Option (List ℕ)
listed_text word [] = Some word ++? Some (codes "()")
listed_text word (t ∷ ts) =
    Some word ++? Some (codes "(") ++? t ++? further_texts ts ++? Some (codes ")")
