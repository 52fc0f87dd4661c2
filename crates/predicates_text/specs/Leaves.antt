-- What the tests of texts print and show, and when they hold.
use Rattle.std.specs.Prelude.{ℕ, Bool, List, ◌++◌, ◌==◌, Some, codes}
use Rattle.std.specs.Fmt.{◌++?◌, debug_str, decimal}
use Rattle.std.specs.Str.{chars}
use Rattle.predicates_core.specs.Label.{Entry, showing, showing_both}
use Rattle.predicates_core.specs.Formula.{Formula, Leaf}
use Rattle.predicates_text.specs.Places.{is_empty, is_front, is_back, is_part}
use Rattle.predicates_text.specs.Count.{count_of}

-- a leaf that shows the text itself as `var`
abbrev pub text_leaf : Entry → List ℕ → Bool → Formula
text_leaf text bytes own = Leaf (showing text (codes "var") (Some bytes)) own

-- a leaf that shows the text itself, and then a number as `actual count`
abbrev pub counted_leaf : Entry → List ℕ → ℕ → Bool → Formula
counted_leaf text bytes n own = Leaf
    (showing_both text (codes "var") (Some bytes) (codes "actual count") (Some (decimal n))) own

-- one that is true where the number is the count
abbrev pub number_leaf : Entry → List ℕ → ℕ → ℕ → Formula
number_leaf text bytes n count = counted_leaf text bytes n (n == count)

-- the text has no characters
abbrev pub empty_text : Entry
empty_text = Some (codes "var.is_empty()")

abbrev pub empty_formula : List ℕ → Formula
empty_formula bytes = text_leaf empty_text bytes (is_empty (chars bytes))

-- the pattern is a front of the text
abbrev pub starts_text : List ℕ → Entry
starts_text pattern = Some (codes "var.starts_with(") ++? debug_str pattern ++? Some (codes ")")

abbrev pub starts_formula : List ℕ → List ℕ → Formula
starts_formula pattern bytes = text_leaf (starts_text pattern) bytes
    (is_front (chars pattern) (chars bytes))

-- the pattern is a back of the text
abbrev pub ends_text : List ℕ → Entry
ends_text pattern = Some (codes "var.ends_with(") ++? debug_str pattern ++? Some (codes ")")

abbrev pub ends_formula : List ℕ → List ℕ → Formula
ends_formula pattern bytes = text_leaf (ends_text pattern) bytes
    (is_back (chars pattern) (chars bytes))

-- the pattern has a place in the text
abbrev pub contains_text : List ℕ → Entry
contains_text pattern = Some (codes "var.contains(" ++ (pattern ++ codes ")"))

abbrev pub contains_formula : List ℕ → List ℕ → Formula
contains_formula pattern bytes = text_leaf (contains_text pattern) bytes
    (is_part (chars pattern) (chars bytes))

-- the other text has the same case folding
abbrev pub eq_ignore_case_text : List ℕ → Entry
eq_ignore_case_text other =
    Some (codes "var.eq_ignore_case(") ++? debug_str other ++? Some (codes ")")

-- the pattern has `count` places in the text, of which no two overlap
abbrev pub matches_formula : List ℕ → ℕ → List ℕ → Formula
matches_formula pattern count bytes = number_leaf (contains_text pattern) bytes
    (count_of (chars pattern) (chars bytes)) count
