-- What the comparisons print and test.
use Rattle.std.specs.Prelude.{ℕ, Bool, not, List, Option, Some, codes}
use Rattle.std.specs.Fmt.{◌++?◌}
use Rattle.std.specs.declared.cmp.Ordering.{Ordering}
use Rattle.std.specs.Ordering.{is_lt, is_le, is_ge, is_gt}
use Rattle.predicates_item.specs.declared.ord.equality.EqOps.{EqOps}
use Rattle.predicates_item.specs.declared.ord.equality.EqOps.TheVariants.{Equal, NotEqual}
use Rattle.predicates_item.specs.declared.ord.order.OrdOps.{OrdOps}
use Rattle.predicates_item.specs.declared.ord.order.OrdOps.TheVariants.{LessThan, LessThanOrEqual}
use Rattle.predicates_item.specs.declared.ord.order.OrdOps.TheVariants.{GreaterThanOrEqual}
use Rattle.predicates_item.specs.declared.ord.order.OrdOps.TheVariants.{GreaterThan}

abbrev pub eq_symbol : EqOps → List ℕ
eq_symbol Equal = codes "=="
eq_symbol NotEqual = codes "!="

abbrev pub ord_symbol : OrdOps → List ℕ
ord_symbol LessThan = codes "<"
ord_symbol LessThanOrEqual = codes "<="
ord_symbol GreaterThanOrEqual = codes ">="
ord_symbol GreaterThan = codes ">"

-- the answer, where `equal` says whether the item equals the constant
abbrev pub eq_truth : EqOps → Bool → Bool
eq_truth Equal equal = equal
eq_truth NotEqual equal = not equal

-- the answer, from the order of the item, on the left, and the constant
abbrev pub ord_truth : OrdOps → Ordering → Bool
ord_truth LessThan o = is_lt o
ord_truth LessThanOrEqual o = is_le o
ord_truth GreaterThanOrEqual o = is_ge o
ord_truth GreaterThan o = is_gt o

-- `var`, the symbol and the constant
abbrev pub comparison_text : List ℕ → Option (List ℕ) → Option (List ℕ)
comparison_text symbol constant = Some (codes "var ") ++? Some symbol ++? Some (codes " ") ++?
    constant
