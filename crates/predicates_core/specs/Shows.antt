-- When a case shows a formula, cut down to some of its leaves.
use Rattle.std.specs.Fmt.{decimal}
use Rattle.std.specs.Prelude.{◌≡◌, ℕ, suc, ◌-◌, Bool, not, List, [], ◌∷◌, map, filter, Option, Some}
use Rattle.std.specs.Prelude.{None, MatchOption, codes, nat_lt, nat_le, true, false}
use Rattle.predicates_core.specs.Label.{Label, Entry, FitsText, FitsProducts}
use Rattle.predicates_core.specs.Formula.{Formula, Leaf, Join, Not, Named, AtLeast}
use Rattle.predicates_core.specs.Formula.{Formulas, one, more, size, truth, HasTruth}
use Rattle.predicates_core.specs.Formula.{number_of_parts, needed, enough_of}
use Rattle.predicates_core.specs.Kinds.{Kind, reasons, changes, First}
use Rattle.predicates_core.specs.Tree.{Tree, Forest, empty, branch, forest}
use Rattle.predicates_core.specs.Describe.{CaseNode, NamedCase, with_product}

-- a node with the text, the products and the result
pub record FitsNode (label : Label) (b : Bool) (node : CaseNode) : Type 0 where
  pub text : FitsText label.text node.text
  pub result : node.result ≡ b
  pub products : FitsProducts label.products node.products

-- the share of the first part, which has the first n leaves
unfoldable pub left_share : ℕ → List ℕ → List ℕ
left_share n leaves = filter (λ k. nat_lt k n) leaves

-- the share of the other parts, numbered from 0
unfoldable pub right_share : ℕ → List ℕ → List ℕ
right_share n leaves = map (λ k. k - n) (filter (λ k. nat_le n k) leaves)

-- a part with a share stands first among the children, and one without is left out
abbrev pub ShowsPart : (Tree CaseNode → List ℕ → Type 0) → List ℕ → List ℕ → Forest CaseNode
    → Forest CaseNode → Type 0
ShowsPart showing name [] children rest = children ≡ rest
ShowsPart showing name (k ∷ ks) children rest = (c : Tree CaseNode)
    × (children ≡ branch name c.root c.children rest) × showing c (k ∷ ks)

-- the case with a part's number, from 0, the last of its products
abbrev pub with_index : ℕ → Tree CaseNode → Tree CaseNode
with_index k c = with_product c (codes "index", decimal k)

-- so it is where numbers are told
abbrev pub numbered : Bool → ℕ → Tree CaseNode → Tree CaseNode
numbered true k c = with_index k c
numbered false k c = c

-- the case shows the part, and tells its number where numbers are told
abbrev pub ShowsNumbered : Bool → ℕ → (Tree CaseNode → List ℕ → Type 0) → Tree CaseNode → List ℕ
    → Type 0
ShowsNumbered tells k showing = λ c s. (part : Tree CaseNode) × (c ≡ numbered tells k part)
    × showing part s

-- whether the parts of a threshold tell their numbers, where k of n have to hold and it has the
-- truth b: in a change always, in a reason where some part is left out
abbrev pub tells_numbers : Kind → Bool → ℕ → ℕ → Bool
tells_numbers reasons b k n = nat_lt (enough_of b k n) n
tells_numbers changes b k n = true

-- the tree is the formula cut down to the leaves, which are of the kind
unfoldable mutual
  pub Shows : Kind → Formula → Tree CaseNode → List ℕ → Type 0
  Shows q (Leaf label own) t s = FitsNode label own t.root × (t.children ≡ empty) × (s ≡ 0 ∷ [])
  Shows q (Join op label fs) t s = FitsNode label (truth (Join op label fs)) t.root
      × ShowsParts q false 0 fs t.children s
  Shows q (Not label f) t s = FitsNode label (truth (Not label f)) t.root
      × ShowsPart (Shows q f) (codes "predicate") s t.children empty
  Shows q (Named label name f) t s = FitsNode label (truth (Named label name f)) t.root
      × ShowsPart (Shows q f) name s t.children empty
  Shows q (AtLeast k label fs) t s = FitsNode label (truth (AtLeast k label fs)) t.root
      × ShowsParts q (tells_numbers q (truth (AtLeast k label fs)) (needed k fs)
      (number_of_parts fs)) 0 fs t.children s

  -- the children are, in order, the parts with a share, each cut down to it; where numbers are
  -- told, each tells its own, and the first part has the number k
  pub ShowsParts : Kind → Bool → ℕ → Formulas → Forest CaseNode → List ℕ → Type 0
  ShowsParts q tells k (one name f) children s =
      ShowsPart (ShowsNumbered tells k (Shows q f)) name s children empty
  ShowsParts q tells k (more name f fs) children s = (rest : Forest CaseNode)
      × ShowsPart (ShowsNumbered tells k (Shows q f)) name (left_share (size f) s) children rest
      × ShowsParts q tells (suc k) fs rest (right_share (size f) s)

-- the case shows the formula cut down to its first leaves of the kind
pub record ExplainsBy (q : Kind) (f : Formula) (t : Tree CaseNode) : Type 0 where
  pub leaves : List ℕ
  pub first : First q f leaves
  pub shown : Shows q f t leaves

-- each formula of F has the truth b, and the case shows it so
pub record IsCaseBy (q : Kind) (F : Formula → Type 0) (b : Bool) (t : Tree CaseNode) : Type 0 where
  pub truth : HasTruth F b
  pub explains : (f : Formula) → F f → ExplainsBy q f t

-- what is to be answered where the truth is asked to be `expected`
abbrev pub IsAnswerBy : Kind → (Formula → Type 0) → Bool → Option (Tree CaseNode) → Type 0
IsAnswerBy q F expected found =
    MatchOption found (HasTruth F (not expected)) (IsCaseBy q F expected)

-- what is to be answered where a truth is wanted, or the case of whichever the formulas have; none
-- is found then only where there is no formula
abbrev pub IsFoundBy : Kind → (Formula → Type 0) → Option Bool → Option (Tree CaseNode) → Type 0
IsFoundBy q F (Some wanted) found = IsAnswerBy q F wanted found
IsFoundBy q F None (Some t) = IsCaseBy q F t.root.result t
IsFoundBy q F None None = (f : Formula) → F f → ⊥

-- the same of reasons
abbrev pub Explains : Formula → Tree CaseNode → Type 0
Explains = ExplainsBy reasons

abbrev pub IsCaseOf : (Formula → Type 0) → Bool → Tree CaseNode → Type 0
IsCaseOf = IsCaseBy reasons

abbrev pub IsAnswer : (Formula → Type 0) → Bool → Option (Tree CaseNode) → Type 0
IsAnswer = IsAnswerBy reasons

abbrev pub IsFound : (Formula → Type 0) → Option Bool → Option (Tree CaseNode) → Type 0
IsFound = IsFoundBy reasons

-- a tree with a text that fits the entry, the result, no products, and the parts
pub record IsNode (entry : Entry) (b : Bool) (parts : List NamedCase) (t : Tree CaseNode) : Type 0
  where
    pub text : FitsText entry t.root.text
    pub result : t.root.result ≡ b
    pub products : t.root.products ≡ []
    pub children : t.children ≡ forest parts

-- the parts whose cases were found, under their names
abbrev pub found_parts : Option (Tree CaseNode) → Option (Tree CaseNode) → List NamedCase
found_parts None None = []
found_parts None (Some right) = (codes "right", right) ∷ []
found_parts (Some left) None = (codes "left", left) ∷ []
found_parts (Some left) (Some right) = (codes "left", left) ∷ (codes "right", right) ∷ []
