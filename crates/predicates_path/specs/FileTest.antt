-- What a leaf over a test of a file means.
use Rattle.std.specs.Prelude.{◌≡◌, Bool, List, [], ◌∷◌, Option, None, Some, MatchOption}
use Rattle.predicates_core.specs.Label.{Entry, Product}
use Rattle.predicates_core.specs.Formula.{Formula, Leaf}
use Rattle.predicates_core.specs.Leaves.{IsShowing}
use Rattle.predicates_core.specs.Tree.{Tree}
use Rattle.predicates_core.specs.Describe.{CaseNode}

abbrev listed : Option Product → List Product
listed None = []
listed (Some p) = p ∷ []

-- a leaf that shows the product, if there is one
abbrev pub file_leaf : Entry → Option Product → Bool → Formula
file_leaf text product own = Leaf (record { text = text; products = listed product }) own

-- t is c with the product, if there is one
abbrev pub IsShown : Option Product → Tree CaseNode → Tree CaseNode → Type 0
IsShown product c t = MatchOption product (t ≡ c) (λ p. IsShowing p.name p.value c t)
