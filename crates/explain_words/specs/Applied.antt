-- What a word makes of a stack of checks.
use Rattle.std.specs.Prelude.{◌≡◌, ℕ, List, [], ◌∷◌, ◌++◌, string_bytes}
use Rattle.predicates_item.specs.Makers.{equal_to}
use Rattle.predicates_text.specs.Patterns.{starts_pattern, ends_pattern, contains_pattern}
use Rattle.predicates_text.specs.Expressions.{regex_text, IsReadFromText}
use Rattle.predicates_text.specs.Refusals.{IsExpression, IsRefused}
use Rattle.explain_words.specs.declared.word.Word.{Word}
use Rattle.explain_words.specs.declared.word.Word.TheVariants as words
use Rattle.explain_words.specs.declared.check.TextCheck as checks
use Rattle.explain_words.specs.declared.check.TextCheck.{TextCheck}

-- how many checks a word takes
abbrev pub operand_count : Word → ℕ
operand_count words.Trim = 1
operand_count words.Normalize = 1
operand_count words.Not = 1
operand_count words.And = 2
operand_count words.Or = 2
operand_count words.Xor = 2
operand_count _ = 0

-- the check is that of the word over these operands, the earlier one first
abbrev pub IsCheckOf : Word → List TextCheck → TextCheck → Type 0
IsCheckOf words.Empty [] (checks.Empty p) = Unit {0}
IsCheckOf (words.Equals text) [] (checks.Equals p) = p ≡ equal_to text
IsCheckOf (words.Starts text) [] (checks.Starts p) = starts_pattern p ≡ string_bytes text
IsCheckOf (words.Ends text) [] (checks.Ends p) = ends_pattern p ≡ string_bytes text
IsCheckOf (words.Contains text) [] (checks.Contains p) = contains_pattern p ≡ string_bytes text
IsCheckOf (words.Matches text) [] (checks.Matches p) =
    (regex_text p ≡ string_bytes text) × IsReadFromText p
IsCheckOf words.Trim (operand ∷ []) (checks.Trim' _ inner) = inner ≡ operand
IsCheckOf words.Normalize (operand ∷ []) (checks.Normalize' _ inner) = inner ≡ operand
IsCheckOf words.Not (operand ∷ []) (checks.Not' _ inner) = inner ≡ operand
IsCheckOf words.And (left ∷ right ∷ []) (checks.And' _ l _ r) = (l ≡ left) × (r ≡ right)
IsCheckOf words.Or (left ∷ right ∷ []) (checks.Or' _ l _ r) = (l ≡ left) × (r ≡ right)
IsCheckOf words.Xor (left ∷ right ∷ []) (checks.Xor' _ l _ r) = (l ≡ left) × (r ≡ right)
IsCheckOf _ _ _ = ⊥

-- the check is that of the word over the last of the old stack, and the others are left
pub record IsMade (word : Word) (old left : List TextCheck) (check : TextCheck) : Type 0 where
  pub operands : List TextCheck
  pub taken : old ≡ left ++ operands
  pub is_check : IsCheckOf word operands check

-- the word's check stands last, in place of its operands
pub record IsApplied (word : Word) (old new : List TextCheck) : Type 0 where
  pub left : List TextCheck
  pub check : TextCheck
  pub made : IsMade word old left check
  pub pushed : new ≡ left ++ check ∷ []

-- the word's pattern is refused, and not for want of memory
abbrev pub IsRefusedWord : Word → Type 0
IsRefusedWord (words.Matches text) = IsRefused (string_bytes text)
IsRefusedWord _ = ⊥

-- the word's pattern is no regular expression
abbrev pub IsNoExpression : Word → Type 0
IsNoExpression (words.Matches text) = ¬ (IsExpression (string_bytes text))
IsNoExpression _ = ⊥
