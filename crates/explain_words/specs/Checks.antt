-- What a check of texts prints, and its formula on a text, by the word that it stands for.
use Rattle.std.specs.Prelude.{◌≡◌, ℕ, List, Bool, Option, Some, None}
use Rattle.predicates_core.specs.Asked.{asks, right_wanted, shown_verdict, IsFoundIf}
use Rattle.predicates_core.specs.Describe.{CaseNode, NamedCase}
use Rattle.predicates_core.specs.Kinds.{Kind, reasons, changes}
use Rattle.predicates_core.specs.Label.{Entry, Fits, plain}
use Rattle.predicates_core.specs.Shows.{IsNode}
use Rattle.predicates_core.specs.Tree.{Tree}
use Rattle.predicates_core.specs.Turning.{IsRightChange}
use Rattle.predicates_core.specs.declared.custom.join.Operator.{Operator}
use Rattle.predicates_core.specs.declared.custom.join.Operator.TheVariants.{And, Or, Xor}
use Rattle.predicates_core.specs.Formula.{Formula, pair, Not}
use Rattle.predicates_core.specs.Leaves.{IsExactly}
use Rattle.predicates_core.specs.Combined.{infix_text, not_text, sign, IsPair, IsNot}
use Rattle.predicates_text.specs.Patterns.{starts_pattern, ends_pattern, contains_pattern}
use Rattle.predicates_text.specs.Leaves.{empty_text, empty_formula, starts_text, starts_formula}
use Rattle.predicates_text.specs.Leaves.{ends_text, ends_formula, contains_text, contains_formula}
use Rattle.predicates_text.specs.LeafFormulas.{IsEmptyLeaf, IsStartsLeaf, IsEndsLeaf}
use Rattle.predicates_text.specs.LeafFormulas.{IsContainsLeaf}
use Rattle.predicates_text.specs.Expressions.{match_text, match_formula, regex_text, regex_meaning}
use Rattle.predicates_text.specs.ViewFormulas.{trimmed_bytes, even_bytes}
use Rattle.predicates_item.specs.TextEquality.{text_equality_text, text_equality_formula}
use Rattle.explain_words.specs.declared.check.TextCheck as checks
use Rattle.explain_words.specs.declared.check.TextCheck.{TextCheck}

-- the operator of a check that joins two
abbrev pub operator_of : TextCheck → Operator
operator_of (checks.Or' _ left _ right) = Or
operator_of (checks.Xor' _ left _ right) = Xor
operator_of _ = And

-- the printed text
abbrev pub check_text : TextCheck → Entry
check_text (checks.Empty p) = empty_text
check_text (checks.Equals p) = text_equality_text p
check_text (checks.Starts p) = starts_text (starts_pattern p)
check_text (checks.Ends p) = ends_text (ends_pattern p)
check_text (checks.Contains p) = contains_text (contains_pattern p)
check_text (checks.Matches p) = match_text (regex_text p)
check_text (checks.Trim' _ inner) = check_text inner
check_text (checks.Normalize' _ inner) = check_text inner
check_text (checks.Not' _ inner) = not_text (check_text inner)
check_text (checks.And' _ left _ right) = infix_text (sign And) (check_text left)
    (check_text right)
check_text (checks.Or' _ left _ right) = infix_text (sign Or) (check_text left) (check_text right)
check_text (checks.Xor' _ left _ right) = infix_text (sign Xor) (check_text left) (check_text right)

-- the formula on a text with the bytes
abbrev pub HasFormula : TextCheck → List ℕ → Formula → Type 0
HasFormula (checks.Empty p) bytes = IsEmptyLeaf bytes
HasFormula (checks.Equals p) bytes = IsExactly (text_equality_formula p bytes)
HasFormula (checks.Starts p) bytes = IsStartsLeaf (starts_pattern p) bytes
HasFormula (checks.Ends p) bytes = IsEndsLeaf (ends_pattern p) bytes
HasFormula (checks.Contains p) bytes = IsContainsLeaf (contains_pattern p) bytes
HasFormula (checks.Matches p) bytes = IsExactly (match_formula (regex_text p) (regex_meaning p) bytes)
HasFormula (checks.Trim' _ inner) bytes = HasFormula inner (trimmed_bytes bytes)
HasFormula (checks.Normalize' _ inner) bytes = HasFormula inner (even_bytes bytes)
HasFormula (checks.Not' _ inner) bytes = IsNot (not_text (check_text inner)) (HasFormula inner bytes)
HasFormula (checks.And' _ left _ right) bytes =
    IsPair And (infix_text (sign And) (check_text left) (check_text right)) (HasFormula left bytes)
    (HasFormula right bytes)
HasFormula (checks.Or' _ left _ right) bytes =
    IsPair Or (infix_text (sign Or) (check_text left) (check_text right)) (HasFormula left bytes)
    (HasFormula right bytes)
HasFormula (checks.Xor' _ left _ right) bytes =
    IsPair Xor (infix_text (sign Xor) (check_text left) (check_text right)) (HasFormula left bytes)
    (HasFormula right bytes)

-- the one such formula
abbrev pub check_formula : TextCheck → List ℕ → Formula
check_formula (checks.Empty p) bytes = empty_formula bytes
check_formula (checks.Equals p) bytes = text_equality_formula p bytes
check_formula (checks.Starts p) bytes = starts_formula (starts_pattern p) bytes
check_formula (checks.Ends p) bytes = ends_formula (ends_pattern p) bytes
check_formula (checks.Contains p) bytes = contains_formula (contains_pattern p) bytes
check_formula (checks.Matches p) bytes = match_formula (regex_text p) (regex_meaning p) bytes
check_formula (checks.Trim' _ inner) bytes = check_formula inner (trimmed_bytes bytes)
check_formula (checks.Normalize' _ inner) bytes = check_formula inner (even_bytes bytes)
check_formula (checks.Not' _ inner) bytes = Not (plain (not_text (check_text inner)))
    (check_formula inner bytes)
check_formula (checks.And' _ left _ right) bytes =
    pair And (plain (infix_text (sign And) (check_text left) (check_text right)))
    (check_formula left bytes) (check_formula right bytes)
check_formula (checks.Or' _ left _ right) bytes =
    pair Or (plain (infix_text (sign Or) (check_text left) (check_text right)))
    (check_formula left bytes) (check_formula right bytes)
check_formula (checks.Xor' _ left _ right) bytes =
    pair Xor (plain (infix_text (sign Xor) (check_text left) (check_text right)))
    (check_formula left bytes) (check_formula right bytes)

-- `eval` takes no memory
abbrev pub IsInfallibleCheck : TextCheck → Type 0
IsInfallibleCheck (checks.Matches p) = ⊥
IsInfallibleCheck (checks.Trim' _ inner) = ⊥
IsInfallibleCheck (checks.Normalize' _ inner) = ⊥
IsInfallibleCheck (checks.Not' _ inner) = IsInfallibleCheck inner
IsInfallibleCheck (checks.And' _ left _ right) = IsInfallibleCheck left × IsInfallibleCheck right
IsInfallibleCheck (checks.Or' _ left _ right) = IsInfallibleCheck left × IsInfallibleCheck right
IsInfallibleCheck (checks.Xor' _ left _ right) = IsInfallibleCheck left × IsInfallibleCheck right
IsInfallibleCheck _ = Unit {0}

-- there is a case: a node over the parts, with the text of the check
abbrev pub IsNodeOf : TextCheck → Bool → List NamedCase → Option (Tree CaseNode) → Type 0
IsNodeOf c holds parts None = ⊥
IsNodeOf c holds parts (Some t) = (bytes : List ℕ) × Fits (check_text c) bytes
    × IsNode (Some bytes) holds parts t

-- the right part has the truth, and this is its case where it may belong to the whole's
abbrev pub FindsRight : Kind → Operator → (Formula → Type 0) → Option Bool → Bool → Bool
    → Option (Tree CaseNode) → Type 0
FindsRight reasons op F wanted left holds found =
    IsFoundIf (asks op left) F (right_wanted op left wanted) found
    × (holds ≡ shown_verdict (right_wanted op left wanted) found)
FindsRight changes op F wanted left holds found = IsRightChange op F holds found
