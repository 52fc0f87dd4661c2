-- What a predicate tells of its parts, apart from any item.
use Rattle.std.specs.Prelude.{◌≡◌, ℕ, List, [], ◌∷◌}
use Rattle.predicates_reflection.specs.Label.{Entry, Product, Fits, FitsProducts}
use Rattle.predicates_reflection.specs.Tree.{Forest, empty, branch}
use Rattle.predicates_reflection.specs.Describe.{ChildNode, NamedChild}

-- a part's printed text and parameters
pub record Part : Type 0 where
  pub text : Entry
  pub parameters : List Product

-- the descriptions have the names and fit the texts and parameters, in order and down to the leaves
abbrev pub FitsParts : Forest Part → Forest ChildNode → Type 0
FitsParts empty empty = Unit {0}
FitsParts empty (branch name node below next) = ⊥
FitsParts (branch name part below next) empty = ⊥
FitsParts (branch name part below next) (branch found node children rest) =
    (found ≡ name) × Fits part.text node.text × FitsProducts part.parameters node.parameters
    × FitsParts below children × FitsParts next rest

-- one part, under a name
abbrev pub part : List ℕ → Entry → List Product → Forest Part → Forest Part
part name text parameters below = branch name (record { text = text; parameters = parameters })
    below empty

abbrev pub two_parts : List ℕ → Entry → List Product → Forest Part → List ℕ → Entry → List Product
    → Forest Part → Forest Part
two_parts left a ps below right b qs others = branch left (record { text = a; parameters = ps })
    below (part right b qs others)

-- a description that has the name, and fits the text, the parameters and the parts below
pub record IsPart (name : List ℕ) (text : Entry) (parameters : List Product) (below : Forest Part)
    (c : NamedChild) : Type 0 where
  pub named : c.0 ≡ name
  pub printed : Fits text c.1.root.text
  pub given : FitsProducts parameters c.1.root.parameters
  pub parts : FitsParts below c.1.children

-- a part for each member, in order, under one name
abbrev pub part_of_each : {U : Type 0} → List ℕ → (U → Entry) → (U → List Product)
    → (U → Forest Part) → List U → Forest Part
part_of_each name text parameters below [] = empty
part_of_each name text parameters below (u ∷ us) =
    branch name (record { text = text u; parameters = parameters u }) (below u)
    (part_of_each name text parameters below us)
