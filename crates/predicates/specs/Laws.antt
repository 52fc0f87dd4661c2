-- What the laws of predicates speak of.
use Rattle.std.specs.Prelude.{◌≡◌, ℕ, true, false, not, List, Option, Some, is_some}
use Rattle.predicates_core.specs.Label.{Entry, plain}
use Rattle.predicates_core.specs.declared.custom.join.Operator.{Operator}
use Rattle.predicates_core.specs.Formula.{Formula, pair, Not, Named, truth}
use Rattle.predicates_core.specs.Tree.{Tree}
use Rattle.predicates_core.specs.Describe.{CaseNode}
use Rattle.predicates_core.specs.Shows.{Explains, IsAnswer}
use Rattle.predicates_core.specs.Combined.{not_text, infix_text, sign}

-- the opposite of a formula, under the text that its predicate prints
abbrev pub opposite : Entry → Formula → Formula
opposite printed f = Not (plain (not_text printed)) f

-- the opposite of that
abbrev pub twice_opposite : Entry → Formula → Formula
twice_opposite printed f = opposite (not_text printed) (opposite printed f)

-- the formula under a name
abbrev pub under_name : List ℕ → Formula → Formula
under_name name f = Named (plain (Some name)) name f

-- two formulas joined by the operator, with its sign between their texts
abbrev pub joined : Operator → Entry → Entry → Formula → Formula → Formula
joined op a b f g = pair op (plain (infix_text (sign op) a b)) f g

-- each formula of F has the opposite truth of each of G
pub record AreOpposite (F G : Formula → Type 0) : Type 0 where
  pub at : (f g : Formula) → F f → G g → truth f ≡ not (truth g)

-- f has at most one case that explains it
pub record HasAtMostOneCase (f : Formula) : Type 0 where
  pub same : (c d : Tree CaseNode) → Explains f c → Explains f d → c ≡ d

-- of what is found for the one verdict and for the other, one is a case and the other is none
pub record HasOneAnswer (F : Formula → Type 0) : Type 0 where
  pub one : (yes no : Option (Tree CaseNode)) → IsAnswer F true yes → IsAnswer F false no
      → is_some yes ≡ not (is_some no)
