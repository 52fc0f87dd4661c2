-- A text with its case folded has the characters of a text.
use lib.Utf8.{scalar}
use Rattle.std.proofs.Common.{◌≡◌, List, [], ◌∷◌, ◌++◌, ℕ, true, refl}
use Rattle.std.specs.Str.{all_scalars}
use Rattle.std.proofs.lemmas.Bool.{and_parts, and_from}
use Rattle.ucd_table.proofs.Computing.{tables}
use Rattle.ucd_table.proofs.RangedFacts.{values_ok, Stepped-at_values}
use Rattle.ucd_case.specs.CaseFolding.{full_folding, full_fold, or_itself}
use Rattle.ucd_case.proofs.CaseFoldingLemmas.{full_folding_stepped}
use Rattle.caseless.specs.Caseless.{default_case_fold}

table_scalars : (c : ℕ) → all_scalars (full_folding c) ≡ true
unfolding tables values_ok full_folding_stepped
table_scalars c = Stepped-at_values full_folding full_folding_stepped all_scalars refl c

or_scalars : (c : ℕ) (folded : List ℕ) → scalar c ≡ true → all_scalars folded ≡ true
    → all_scalars (or_itself c folded) ≡ true
or_scalars c [] is known = and_from (scalar c) true is refl
or_scalars c (x ∷ xs) is known = known

append_scalars : (xs ys : List ℕ) → all_scalars xs ≡ true → all_scalars ys ≡ true
    → all_scalars (xs ++ ys) ≡ true
append_scalars [] ys left right = right
append_scalars (x ∷ xs) ys left right =
    let parts = and_parts (scalar x) (all_scalars xs) left in
    and_from (scalar x) (all_scalars (xs ++ ys)) parts.0 (append_scalars xs ys parts.1 right)

-- each character folds to characters
pub folded_scalars : (cs : List ℕ) → all_scalars cs ≡ true
    → all_scalars (default_case_fold cs) ≡ true
unfolding default_case_fold
folded_scalars [] known = refl
folded_scalars (c ∷ cs) known =
    let parts = and_parts (scalar c) (all_scalars cs) known in
    append_scalars (full_fold c) (default_case_fold cs)
    (or_scalars c (full_folding c) parts.0 (table_scalars c)) (folded_scalars cs parts.1)
