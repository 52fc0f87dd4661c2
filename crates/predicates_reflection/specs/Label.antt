-- What a node of a case has to carry: a text, and products, each a name with a value.
use Rattle.std.specs.Prelude.{◌≡◌, ℕ, List, [], ◌∷◌, ◌++◌, Option, Some, IfSome, MatchOption}
use Rattle.predicates_reflection.specs.Describe.{NamedBytes}

-- A text that is given, or that is left open where a part does not state what it prints.
abbrev pub Entry : Type 0
Entry = Option (List ℕ)

-- the bytes are those that the entry gives, or any if it is open
abbrev pub Fits : Entry → List ℕ → Type 0
Fits entry bytes = IfSome entry (λ given. bytes ≡ given)

-- what is printed is stated, and is what the entry gives, or the entry is open
abbrev pub FitsEntry : Entry → Option (List ℕ) → Type 0
FitsEntry entry printed = MatchOption entry (Unit {0}) (λ bytes. printed ≡ Some bytes)

pub record Product : Type 0 where
  pub name : List ℕ
  pub value : Entry

pub record Label : Type 0 where
  pub text : Entry
  pub products : List Product

-- a label with no products
abbrev pub plain : Entry → Label
plain text = record { text = text; products = [] }

-- one value under a name
abbrev pub value_of : List ℕ → Entry → List Product
value_of name value = record { name = name; value = value } ∷ []

-- a label with one product
abbrev pub showing : Entry → List ℕ → Entry → Label
showing text name value = record { text = text; products = value_of name value }

-- a label with two products
abbrev pub showing_both : Entry → List ℕ → Entry → List ℕ → Entry → Label
showing_both text first v second w = record
    { text = text; products = record { name = first; value = v } ∷ value_of second w }

-- the label with one product more, the last
abbrev pub with_last : Label → Product → Label
with_last label p = record label { products = label.products ++ p ∷ [] }

-- the text is there, and fits
abbrev pub FitsText : Entry → Option (List ℕ) → Type 0
FitsText entry text = (bytes : List ℕ) × (text ≡ Some bytes) × Fits entry bytes

-- the products have the names in their order, and each value fits its entry
abbrev pub FitsProducts : List Product → List NamedBytes → Type 0
FitsProducts [] [] = Unit {0}
FitsProducts [] (g ∷ gs) = ⊥
FitsProducts (p ∷ ps) [] = ⊥
FitsProducts (p ∷ ps) (g ∷ gs) = (g.0 ≡ p.name) × Fits p.value g.1 × FitsProducts ps gs
