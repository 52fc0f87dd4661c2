-- How many records break each rule, as lines.
use Rattle.std.specs.Prelude.{◌≡◌, ℕ, ◌+◌, ◌-◌, ◌^◌, ◌++◌, List, [], ◌∷◌, map, max, replicate}
use Rattle.std.specs.Prelude.{codes, decimal, flat_map, length, nat_lt, slice_index}
use Rattle.std.specs.Prelude.{if◌then◌else◌, IsPermutation}
use Rattle.std.specs.Int.{div_ceil}
use Rattle.std.specs.List.Sorted.{IsNonDecreasingBy, IsStableByKey}
use Rattle.std.specs.Ordering.{nat_cmp}
use Rattle.vet_run.specs.declared.summary_lines.Columns.{Columns}
use Rattle.vet_run.specs.declared.summary_lines.Row.{Row}

-- a rule's name, and how many records break it
abbrev pub Named : Type 0
Named = List ℕ × ℕ

abbrev pub row_of : Row → Named
row_of r = (r.name.now, r.count)

-- the rules from this number on in their order, each with its count
abbrev pub rows_of : ℕ → List (List ℕ) → List ℕ → List Named
rows_of i [] counts = []
rows_of i (name ∷ names) counts = (name, slice_index counts i) ∷ rows_of (i + 1) names counts

-- how far a row is from the greatest count that there is
abbrev pub falling : Row → ℕ
falling r = 2 ^ 64 - 1 - r.count

-- how many records a `#` stands for
abbrev pub unit_of : List Row → ℕ
unit_of [] = 1
unit_of (r ∷ rs) = max (div_ceil r.count 40) 1

-- columns as wide as the count and the bar of the first row, which has the greatest count
abbrev pub columns_of : List Row → Columns
columns_of [] = record { count = 0; bar = 0; unit = 1 }
columns_of (r ∷ rs) = record {
  count = length (decimal r.count);
  bar = div_ceil r.count (unit_of (r ∷ rs));
  unit = unit_of (r ∷ rs);
}

-- a count, at the right of its column
abbrev pub count_text : ℕ → ℕ → List ℕ
count_text width count = replicate (width - length (decimal count)) 32 ++ decimal count

-- a bar, at the left of its column
abbrev pub bar_text : ℕ → ℕ → List ℕ
bar_text width bar = replicate bar 35 ++ replicate (width - bar) 32

-- a rule's count, its bar and its name
abbrev pub row_text : Columns → Named → List ℕ
row_text columns r =
    count_text columns.count r.1
    ++ (codes "  "
    ++ (bar_text columns.bar (div_ceil r.1 columns.unit)
    ++ (codes "  " ++ (r.0 ++ codes "\n"))))

-- what a `#` stands for; nothing where it is one record
abbrev pub scale_text : ℕ → List ℕ
scale_text unit =
    if nat_lt 1 unit then codes "each # is up to " ++ (decimal unit ++ codes " records\n") else []

-- a line for each rule, of those that more records break first, and of the others in their order,
-- and one for the scale
pub record IsSummary (rules : List Named) (text : List ℕ) : Type 0 where
  pub first : List Row
  pub rows : List Row
  pub of : map row_of first ≡ rules
  pub moved : IsPermutation first rows
  pub ranked : IsNonDecreasingBy falling rows
  pub stable : IsStableByKey falling nat_cmp first rows
  pub is : text ≡ flat_map (λ r. row_text (columns_of rows) (row_of r)) rows
      ++ scale_text (columns_of rows).unit
