-- How an expression is written, with no more parentheses than it needs.
use Rattle.std.specs.Prelude.{◌≡◌, ◌⊎◌, ◌==◌, ℕ, zero, suc, Ok, Some, ◌<◌, ◌^◌, max, pos, negsuc, Float, Bool}
use Rattle.std.specs.Prelude.{true, false, ◌&&◌, ◌||◌, List, [], ◌∷◌, ◌++◌, map, if◌then◌else◌}
use Rattle.std.specs.List.{list_all}
use Rattle.std.specs.Fmt.{DisplaysOnOk}
use Rattle.std.specs.declared.fmt.Formatter.{Formatter}
use Rattle.std.specs.Str.{IsUtf8, is_utf8}
use Rattle.serde_json.specs.Data.{number, float}
use Rattle.serde_json.specs.Read.{read}
use Rattle.serde_json.specs.Written.{compact_text}
use Rattle.vet_rules.specs.declared.expression.Connective.{Connective}
use Rattle.vet_rules.specs.declared.expression.Connective.TheVariants.{Or, Xor, And}
use Rattle.vet_rules.specs.declared.expression.HowMany.{HowMany}
use Rattle.vet_rules.specs.declared.expression.HowMany.TheVariants as quantifiers
use Rattle.vet_rules.specs.declared.parser.Separator.{Separator}
use Rattle.vet_rules.specs.declared.parser.Separator.TheVariants as separators
use Rattle.vet_rules.specs.declared.condition.ValueKind.TheVariants as value_kinds
use Rattle.vet_rules.specs.declared.fixed.Fixed.{Fixed}
use Rattle.vet_rules.specs.declared.fixed.Fixed.TheVariants as fixed
use Rattle.vet_rules.specs.declared.layout.Written.{Written}
use Rattle.vet_rules.specs.declared.layout.Written.TheVariants as writtens
use Rattle.vet_rules.specs.declared.lexer.Class.TheVariants.{Digit, Slash}
use Rattle.vet_rules.specs.Literals.{Literal, Natural, Negative, Decimal, Text, Boolean}
use Rattle.vet_rules.specs.Literals.{Null, literal_of}
use Rattle.vet_rules.specs.Signs as signs
use Rattle.vet_rules.specs.Signs.{Sign}
use Rattle.vet_rules.specs.Conditions.{Condition, Is, Compare, CompareWith, Length, IsOf}
use Rattle.vet_rules.specs.Conditions.{Relate, In, KeysIn}
use Rattle.vet_rules.specs.Trees.{Tree, Test, Not, Implies, Quantified, Joined, AtLeast}
use Rattle.vet_rules.specs.Trees.{Trees, none, more}
use Rattle.vet_rules.specs.Grammar.{Level, By, Single, Whole, Premise, separator_word}
use Rattle.vet_rules.specs.Grammar.{part_level}
use Rattle.vet_rules.specs.Lexemes.{class_of, continues, is_shown, text_of, data_of}

-- ---- the tokens of an expression

abbrev pub literal_sign : Literal → Sign
literal_sign (Boolean b) = signs.Word (fixed.Boolean b)
literal_sign Null = signs.Word (fixed.ValueKind value_kinds.Null)
literal_sign v = signs.Literal v

abbrev pub text_sign : List ℕ → Sign
text_sign text = signs.Literal (Text text)

-- whether a path can be written as it is
unfoldable pub is_bare : List ℕ → Bool
is_bare path = list_all (continues Slash) path && is_shown path

-- a path as it is, or else as a text in quotes
abbrev pub path_sign : List ℕ → Sign
path_sign path = if is_bare path then signs.Path path else text_sign path

-- , t .. , t
abbrev pub following : List Sign → List Sign
following [] = []
following (t ∷ ts) = signs.Word fixed.Comma ∷ t ∷ following ts

-- t , .. , t
abbrev pub row_signs : List Sign → List Sign
row_signs [] = []
row_signs (t ∷ ts) = t ∷ following ts

-- in [ t , .. , t ]
abbrev pub among_signs : List Sign → List Sign
among_signs ts = signs.Word fixed.In ∷ signs.Word fixed.OpenList
    ∷ (row_signs ts ++ signs.Word fixed.CloseList ∷ [])

-- the path of a test, and what stands before it
abbrev pub subject_signs : List ℕ → Condition → List Sign
subject_signs path (KeysIn texts) = signs.Word fixed.Keys ∷ path_sign path ∷ []
subject_signs path t = path_sign path ∷ []

-- and behind it
abbrev pub condition_signs : Condition → List Sign
condition_signs (Is s) = signs.Word (fixed.State s) ∷ []
condition_signs (Compare o v) = signs.Word (fixed.Comparison o) ∷ literal_sign v ∷ []
condition_signs (CompareWith o path) = signs.Word (fixed.Comparison o) ∷ signs.Path path ∷ []
condition_signs (Length o n) =
    signs.Word fixed.Length ∷ signs.Word (fixed.Comparison o) ∷ signs.Literal (Natural n) ∷ []
condition_signs (IsOf k) = signs.Word fixed.Is ∷ signs.Word (fixed.ValueKind k) ∷ []
condition_signs (Relate r text) = signs.Word (fixed.Relation r) ∷ text_sign text ∷ []
condition_signs (In vs) = among_signs (map literal_sign vs)
condition_signs (KeysIn texts) = among_signs (map text_sign texts)

-- at least K
abbrev pub threshold_signs : ℕ → List Sign
threshold_signs k = signs.Word fixed.At ∷ signs.Word fixed.Least ∷ signs.Literal (Natural k) ∷ []

abbrev pub quantifier_signs : HowMany → List Sign
quantifier_signs quantifiers.Each = signs.Word fixed.Each ∷ []
quantifier_signs quantifiers.Any = signs.Word fixed.Any ∷ []
quantifier_signs (quantifiers.AtLeast k) = threshold_signs k

abbrev pub in_parentheses : List Sign → List Sign
in_parentheses ts = signs.Word fixed.Open ∷ (ts ++ signs.Word fixed.Close ∷ [])

-- what c joins may stand at a level as it is
abbrev pub fits : Level → Connective → Bool
fits Single c = false
fits (By Or) c = true
fits (By Xor) Or = false
fits (By Xor) c = true
fits (By And) And = true
fits (By And) c = false
fits Whole c = true
fits Premise c = false

-- whether an implication may stand at a level as it is
abbrev pub takes_if : Level → Bool
takes_if Whole = true
takes_if l = false

abbrev pub has_parts : Trees → Bool
has_parts none = false
has_parts (more e es) = true

-- whether a join may stand at a level without parentheses
abbrev pub stands_at : Level → Connective → Trees → Bool
stands_at l c es = has_parts es && fits l c

abbrev mutual
  pub signs_at : Level → Tree → List Sign
  signs_at l (Test path t) = subject_signs path t ++ condition_signs t
  signs_at l (Not e) = signs.Word fixed.Not ∷ signs_at Single e
  signs_at l (Implies a b) =
      let ts = signs.Word fixed.If
      ∷ (signs_at Whole a ++ signs.Word fixed.Then ∷ signs_at Whole b) in
      if takes_if l then ts else in_parentheses ts
  signs_at l (Quantified q path e) =
      quantifier_signs q ++ path_sign path ∷ in_parentheses (signs_at Whole e)
  signs_at l (Joined c es) = if stands_at l c es then part_signs (separators.Connective c) es
      else in_parentheses (part_signs (separators.Connective c) es)
  signs_at l (AtLeast k es) =
      threshold_signs k ++ signs.Word fixed.Of ∷ in_parentheses (part_signs separators.Comma es)

  -- E s .. s E
  pub part_signs : Separator → Trees → List Sign
  part_signs s none = []
  part_signs s (more e es) = signs_at (part_level s) e ++ follow_signs s es

  -- s E .. s E
  pub follow_signs : Separator → Trees → List Sign
  follow_signs s none = []
  follow_signs s (more e es) =
      signs.Word (separator_word s) ∷ (signs_at (part_level s) e ++ follow_signs s es)

-- how deep an expression nests when it is written so
abbrev mutual
  pub nesting_at : Level → Tree → ℕ
  nesting_at l (Test path t) = 0
  nesting_at l (Not e) = suc (nesting_at Single e)
  nesting_at l (Implies a b) = if takes_if l
      then suc (max (suc (nesting_at Whole a)) (nesting_at Whole b))
      else suc (suc (max (suc (nesting_at Whole a)) (nesting_at Whole b)))
  nesting_at l (Quantified q path e) = suc (nesting_at Whole e)
  nesting_at l (Joined c es) = if stands_at l c es then parts_nesting (separators.Connective c) es
      else suc (parts_nesting (separators.Connective c) es)
  nesting_at l (AtLeast k es) = suc (parts_nesting separators.Comma es)

  pub parts_nesting : Separator → Trees → ℕ
  parts_nesting s none = 0
  parts_nesting s (more e es) = max (nesting_at (part_level s) e) (parts_nesting s es)

abbrev pub IsSome : Trees → Type 0
IsSome none = ⊥
IsSome (more e es) = Unit {0}

-- each join has two parts or more, and each threshold one or more
abbrev mutual
  pub IsProper : Tree → Type 0
  IsProper (Test path t) = Unit {0}
  IsProper (Not e) = IsProper e
  IsProper (Implies a b) = IsProper a × IsProper b
  IsProper (Quantified q path e) = IsProper e
  IsProper (Joined c es) = AreMany es
  IsProper (AtLeast k es) = IsSome es × AreProper es

  pub AreMany : Trees → Type 0
  AreMany none = ⊥
  AreMany (more e es) = IsProper e × IsSome es × AreProper es

  pub AreProper : Trees → Type 0
  AreProper none = Unit {0}
  AreProper (more e es) = IsProper e × AreProper es

-- ---- their text

abbrev pub path_text : List ℕ → List ℕ
path_text [] = 47 ∷ []
path_text (b ∷ []) = if b == 94 then b ∷ 47 ∷ [] else b ∷ []
path_text word = word

-- a literal as JSON writes it, or as it was written
abbrev pub literal_text : Literal → List ℕ
literal_text (Decimal text x) = text
literal_text v = compact_text (data_of v)

abbrev pub word_of : Sign → List ℕ
word_of (signs.Word f) = text_of f
word_of (signs.Path path) = path_text path
word_of (signs.Literal v) = literal_text v
word_of signs.End = []

-- whether the next token follows at once
abbrev pub opens : Sign → Bool
opens (signs.Word fixed.Open) = true
opens (signs.Word fixed.OpenList) = true
opens t = false

-- whether it follows the token before at once
abbrev pub closes : Sign → Bool
closes (signs.Word fixed.Close) = true
closes (signs.Word fixed.CloseList) = true
closes (signs.Word fixed.Comma) = true
closes t = false

-- the tokens as a rule lays them out, the first of them at once or behind a space
abbrev pub laid_from : Bool → List Sign → List ℕ
laid_from at_once [] = []
laid_from at_once (t ∷ ts) =
    (if at_once || closes t then [] else 32 ∷ []) ++ (word_of t ++ laid_from (opens t) ts)

abbrev pub laid : List Sign → List ℕ
laid ts = laid_from true ts

abbrev pub written_sign : Written → Sign
written_sign (writtens.Word f) = signs.Word f
written_sign (writtens.Path path) = signs.Path path.now
written_sign (writtens.Text text) = text_sign text.now
written_sign (writtens.Number n) = signs.Literal (Natural n)
written_sign (writtens.Value v) = literal_sign (literal_of v.now)

-- what stands before a part of a row, behind so many others
abbrev pub front_signs : Fixed → ℕ → List Sign
front_signs w zero = []
front_signs w (suc k) = signs.Word w ∷ []

-- whether what stands behind them follows at once
abbrev pub next_at : Bool → List Sign → Bool
next_at at_once [] = at_once
next_at at_once (t ∷ ts) = next_at (opens t) ts

-- they are written so
pub record Lays {W : Type 0} (took : W → List ℕ → W → Type 0) (f : Formatter W) (at_once : Bool)
    (ts : List Sign) (next : Bool) (g : Formatter W) : Type 0 where
  pub next_is : next ≡ next_at at_once ts
  pub writes : DisplaysOnOk took f (Ok tt) (Some (laid_from at_once ts)) g

abbrev pub printed : Tree → List ℕ
printed e = laid (signs_at Whole e)

-- how a path begins that is not empty: with / and more, or with ^ and such a pointer
abbrev pub Begins : ℕ → ℕ → List ℕ → Type 0
Begins b c [] = b ≡ 47
Begins b c bytes = (b ≡ 47) ⊎ (b ≡ 94) × (c ≡ 47)

-- a path that a rule can write: empty, or / and more, or ^ and such a pointer
abbrev pub IsPath : List ℕ → Type 0
IsPath [] = Unit {0}
IsPath (b ∷ []) = b ≡ 94
IsPath (b ∷ c ∷ bytes) = Begins b c bytes × IsUtf8 (b ∷ c ∷ bytes)

-- one with no quotes: it has no no-break space, space, mark, operator, # or control character
abbrev pub IsBarePath : List ℕ → Type 0
IsBarePath path = IsPath path × (is_bare path ≡ true)

-- one word of a number that JSON reads as x
abbrev pub IsDecimal : List ℕ → Float → Type 0
IsDecimal [] x = ⊥
IsDecimal (b ∷ bytes) x =
    (class_of b ≡ Digit) × (list_all (continues Digit) bytes ≡ true) × (is_utf8 (b ∷ bytes) ≡ true)
    × (read (b ∷ bytes) ≡ Some (number (float x)))

-- a literal that Rust holds
abbrev pub IsLiteral : Literal → Type 0
IsLiteral (Natural n) = n < 2 ^ 64
IsLiteral (Negative (pos n)) = ⊥
IsLiteral (Negative (negsuc n)) = n < 2 ^ 63
IsLiteral (Decimal text x) = IsDecimal text x
IsLiteral (Text text) = IsUtf8 text
IsLiteral (Boolean b) = Unit {0}
IsLiteral Null = Unit {0}

abbrev pub AreLiterals : List Literal → Type 0
AreLiterals [] = Unit {0}
AreLiterals (v ∷ vs) = IsLiteral v × AreLiterals vs

abbrev pub IsPlainCondition : Condition → Type 0
IsPlainCondition (Is s) = Unit {0}
IsPlainCondition (Compare o v) = IsLiteral v
IsPlainCondition (CompareWith o path) = IsBarePath path
IsPlainCondition (Length o n) = IsLiteral (Natural n)
IsPlainCondition (IsOf k) = Unit {0}
IsPlainCondition (Relate r text) = IsUtf8 text
IsPlainCondition (In vs) = AreLiterals vs
IsPlainCondition (KeysIn texts) = AreLiterals (map Text texts)

abbrev pub IsPlainQuantifier : HowMany → Type 0
IsPlainQuantifier quantifiers.Each = Unit {0}
IsPlainQuantifier quantifiers.Any = Unit {0}
IsPlainQuantifier (quantifiers.AtLeast k) = IsLiteral (Natural k)

-- its paths, literals and numbers can be written
abbrev mutual
  pub IsPlain : Tree → Type 0
  IsPlain (Test path t) = IsPath path × IsPlainCondition t
  IsPlain (Not e) = IsPlain e
  IsPlain (Implies a b) = IsPlain a × IsPlain b
  IsPlain (Quantified q path e) = IsPath path × IsPlain e × IsPlainQuantifier q
  IsPlain (Joined c es) = ArePlain es
  IsPlain (AtLeast k es) = IsLiteral (Natural k) × ArePlain es

  pub ArePlain : Trees → Type 0
  ArePlain none = Unit {0}
  ArePlain (more e es) = IsPlain e × ArePlain es
