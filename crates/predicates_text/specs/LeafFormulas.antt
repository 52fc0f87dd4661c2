-- What the tests of texts mean: their leaves, by where and how often the pattern stands in the
-- text.
use Rattle.std.specs.Prelude.{◌≡◌, ◌↔◌, ℕ, Bool, IsTrue, List, [], ◌==◌}
use Rattle.std.specs.Str.{chars}
use Rattle.caseless.specs.Caseless.{IsDefaultMatch}
use Rattle.predicates_core.specs.Label.{Entry}
use Rattle.predicates_core.specs.Formula.{Formula}
use Rattle.predicates_text.specs.Places.{IsFrontOf, IsBackOf, IsPartOf}
use Rattle.predicates_text.specs.Count.{IsCountOf}
use Rattle.predicates_text.specs.Leaves.{text_leaf, counted_leaf, empty_text, starts_text}
use Rattle.predicates_text.specs.Leaves.{ends_text, contains_text, eq_ignore_case_text}

-- f is the leaf that shows the text and is true exactly where the fact holds
pub record IsTextLeaf (printed : Entry) (bytes : List ℕ) (fact : Type 0) (f : Formula) : Type 0
  where
    pub own : Bool
    pub exactly : IsTrue own ↔ fact
    pub is : f ≡ text_leaf printed bytes own

-- the text has no characters
abbrev pub IsEmptyLeaf : List ℕ → Formula → Type 0
IsEmptyLeaf bytes = IsTextLeaf empty_text bytes (chars bytes ≡ [])

-- the pattern is a front of the text
abbrev pub IsStartsLeaf : List ℕ → List ℕ → Formula → Type 0
IsStartsLeaf pattern bytes = IsTextLeaf (starts_text pattern) bytes
    (IsFrontOf (chars pattern) (chars bytes))

-- the pattern is a back of the text
abbrev pub IsEndsLeaf : List ℕ → List ℕ → Formula → Type 0
IsEndsLeaf pattern bytes = IsTextLeaf (ends_text pattern) bytes
    (IsBackOf (chars pattern) (chars bytes))

-- the pattern has a place in the text
abbrev pub IsContainsLeaf : List ℕ → List ℕ → Formula → Type 0
IsContainsLeaf pattern bytes = IsTextLeaf (contains_text pattern) bytes
    (IsPartOf (chars pattern) (chars bytes))

-- the other text has the same case folding
abbrev pub IsEqIgnoreCaseLeaf : List ℕ → List ℕ → Formula → Type 0
IsEqIgnoreCaseLeaf other bytes = IsTextLeaf (eq_ignore_case_text other) bytes
    (IsDefaultMatch (chars other) (chars bytes))

-- f is the leaf that shows the greatest number of places of which no two overlap, and is true where
-- that is the count
pub record IsCountedLeaf (pattern : List ℕ) (count : ℕ) (bytes : List ℕ) (f : Formula) : Type 0
  where
    pub number : ℕ
    pub greatest : IsCountOf (chars pattern) (chars bytes) number
    pub is : f ≡ counted_leaf (contains_text pattern) bytes number (number == count)
