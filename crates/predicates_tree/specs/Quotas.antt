-- How many of several have to hold, and the formulas of what holds where they do.
use Rattle.std.specs.Prelude.{◌≡◌, ℕ, ◌+◌, ◌-◌, ◌%◌, ◌≤◌, nat_le, nat_lt, ◌==◌, Bool, true, false}
use Rattle.std.specs.Prelude.{List, [], ◌∷◌, length, Option, Some, None, cond, codes}
use Rattle.std.specs.Fmt.{decimal, ◌++?◌}
use Rattle.predicates_core.specs.Label.{Entry, plain}
use Rattle.predicates_core.specs.declared.custom.join.Operator.TheVariants.{Xor}
use Rattle.predicates_core.specs.declared.custom.quantifier.HowMany.TheVariants as many
use Rattle.predicates_core.specs.declared.custom.quantifier.HowMany.TheVariants.{Every, AtLeastOne}
use Rattle.predicates_core.specs.Formula.{Formula, Formulas, Join, AtLeast}
use Rattle.predicates_core.specs.HowMany.{least_of}
use Rattle.predicates_core.specs.Leaves.{IsExactly}
use Rattle.predicates_core.specs.Several.{AreOfEach, formulas_of, listed_text}
use Rattle.predicates_core.specs.Thresholds.{IsSettled, settled, counted_text, threshold_formula}
use Rattle.predicates_tree.specs.declared.quota.Quota.{Quota}
use Rattle.predicates_tree.specs.declared.quota.Quota.TheVariants.{Threshold, Odd}

-- how many of n have to hold; where an odd number has to, one at least
abbrev pub least : Quota → ℕ → ℕ
least (Threshold many) n = least_of many n
least Odd n = 1

-- whether it is met where m of n hold
abbrev pub meets : Quota → ℕ → ℕ → Bool
meets (Threshold many) n m = nat_le (least_of many n) m
meets Odd n m = m % 2 == 1

-- k of n have to hold, and m of the first j do
abbrev pub decided_at : ℕ → ℕ → ℕ → ℕ → Option Bool
decided_at k n j m = cond (nat_le k m) (Some true) (cond (nat_lt (n - j + m) k) (Some false) None)

-- the truth over n, where the first j settle it, of which m hold
abbrev pub decided : Quota → ℕ → ℕ → ℕ → Option Bool
decided (Threshold many) n j m = decided_at (least_of many n) n j m
decided Odd n j m = None

-- the formula over those of n parts
abbrev pub over : Quota → ℕ → Entry → Formulas → Formula
over (Threshold many) n text fs = AtLeast (least_of many n) (plain text) fs
over Odd n text fs = Join Xor (plain text) fs

-- f is it over some that are so
pub record IsOver (q : Quota) (n : ℕ) (text : Entry) (are : Formulas → Type 0) (f : Formula)
    : Type 0 where
  pub formulas : Formulas
  pub of_each : are formulas
  pub is : f ≡ over q n text formulas

-- f is it over those of n parts, or the leaf where their number settles it
pub record IsOfNumber (q : Quota) (n : ℕ) (text : Entry) (are : Formulas → Type 0) (f : Formula)
    : Type 0 where
  pub of_settled : IsSettled (least q n) n → IsExactly (settled text (least q n) n) f
  pub of_counted : 1 ≤ least q n → least q n ≤ n → IsOver q n text are f

-- the same over a formula of each of a list
pub record IsOfQuota {U : Type 0} (q : Quota) (text : Entry) (name : List ℕ)
    (has : U → Formula → Type 0) (us : List U) (f : Formula) : Type 0 where
  pub of_number : IsOfNumber q (length us) text (AreOfEach name has us) f

-- the one formula, where each has one
abbrev pub quota_formula : {U : Type 0} → Quota → Entry → List ℕ → (U → Formula) → List U → Formula
quota_formula (Threshold many) text name g us =
    threshold_formula (least_of many (length us)) text name g us
quota_formula Odd text name g [] = settled text 1 0
quota_formula Odd text name g (u ∷ us) = Join Xor (plain text) (formulas_of name g u us)

-- what is printed of parts, from their texts
abbrev pub row_text : Quota → List Entry → Entry
row_text (Threshold Every) ts = listed_text (codes "all_of") ts
row_text (Threshold AtLeastOne) ts = listed_text (codes "any_of") ts
row_text (Threshold (many.AtLeast k)) ts = counted_text (codes "at_least") k ts
row_text Odd ts = listed_text (codes "odd_of") ts

-- what is printed before a view of members
abbrev pub member_words : Quota → Entry
member_words (Threshold Every) = Some (codes "each ")
member_words (Threshold AtLeastOne) = Some (codes "any ")
member_words (Threshold (many.AtLeast k)) =
    Some (codes "at_least ") ++? Some (decimal k) ++? Some (codes " ")
member_words Odd = Some (codes "odd ")

-- the words, a view of members, and the check of a member in parentheses
abbrev pub viewed_text : Entry → Entry → Entry
viewed_text view inner = view ++? Some (codes "(") ++? inner ++? Some (codes ")")

abbrev pub members_text : Quota → Entry → Entry → Entry
members_text q view inner = member_words q ++? viewed_text view inner
