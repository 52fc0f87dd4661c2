-- How each token is written.
use Rattle.std.specs.Prelude.{◌≡◌, ℕ, Bool, true, false, not, ◌&&◌, ◌||◌, ◌==◌, nat_le, nat_lt}
use Rattle.std.specs.Prelude.{List, [], ◌∷◌, length, codes, Option, Some, None, option_map}
use Rattle.std.specs.Prelude.{if◌then◌else◌, take, drop, suc}
use Rattle.std.specs.List.{find, list_any, prefix_len}
use Rattle.std.specs.Str.{bytes_eq, chars, is_utf8}
use Rattle.serde_json.specs.Data.{Data, null, boolean, number, string, unsigned, negative, float}
use Rattle.serde_json.specs.Read.{read}
use Rattle.vet_rules.specs.declared.expression.Connective.TheVariants as connectives
use Rattle.vet_rules.specs.declared.condition.Comparison.TheVariants as comparisons
use Rattle.vet_rules.specs.declared.condition.Relation.TheVariants as relations
use Rattle.vet_rules.specs.declared.condition.State.TheVariants as states
use Rattle.vet_rules.specs.declared.condition.ValueKind.TheVariants as value_kinds
use Rattle.vet_rules.specs.declared.fixed.Fixed.{Fixed}
use Rattle.vet_rules.specs.declared.fixed.Fixed.TheVariants as fixed
use Rattle.vet_rules.specs.declared.lexer.Class.{Class}
use Rattle.vet_rules.specs.declared.lexer.Class.TheVariants.{Letter, Digit, Symbol, Mark}
use Rattle.vet_rules.specs.declared.lexer.Class.TheVariants.{Slash, Quote, Space, Name}
use Rattle.vet_rules.specs.declared.lexer.Class.TheVariants.{Other}
use Rattle.vet_rules.specs.Literals.{Literal, Natural, Negative, Decimal, Text, Boolean}
use Rattle.vet_rules.specs.Literals.{Null}
use Rattle.vet_rules.specs.Signs as signs
use Rattle.vet_rules.specs.Signs.{Sign}

-- ---- tokens with a text of their own

abbrev pub text_of : Fixed → List ℕ
text_of (fixed.Join connectives.Or) = codes "or"
text_of (fixed.Join connectives.Xor) = codes "xor"
text_of (fixed.Join connectives.And) = codes "and"
text_of fixed.Not = codes "not"
text_of fixed.If = codes "if"
text_of fixed.Then = codes "then"
text_of fixed.Each = codes "each"
text_of fixed.Any = codes "any"
text_of fixed.At = codes "at"
text_of fixed.Keys = codes "keys"
text_of fixed.Least = codes "least"
text_of fixed.Of = codes "of"
text_of (fixed.Relation relations.StartsWith) = codes "starts_with"
text_of (fixed.Relation relations.EndsWith) = codes "ends_with"
text_of (fixed.Relation relations.Contains) = codes "contains"
text_of (fixed.Relation relations.Matches) = codes "matches"
text_of fixed.In = codes "in"
text_of (fixed.State states.Exists) = codes "exists"
text_of (fixed.State states.Missing) = codes "missing"
text_of (fixed.State states.IsEmpty) = codes "is_empty"
text_of fixed.Length = codes "length"
text_of fixed.Is = codes "is"
text_of (fixed.ValueKind value_kinds.Text) = codes "text"
text_of (fixed.ValueKind value_kinds.Number) = codes "number"
text_of (fixed.ValueKind value_kinds.Whole) = codes "whole"
text_of (fixed.ValueKind value_kinds.Boolean) = codes "bool"
text_of (fixed.ValueKind value_kinds.Array) = codes "array"
text_of (fixed.ValueKind value_kinds.Object) = codes "object"
text_of (fixed.ValueKind value_kinds.Null) = codes "null"
text_of (fixed.Boolean true) = codes "true"
text_of (fixed.Boolean false) = codes "false"
text_of (fixed.Comparison comparisons.Equal) = codes "=="
text_of (fixed.Comparison comparisons.Unequal) = codes "!="
text_of (fixed.Comparison comparisons.Below) = codes "<"
text_of (fixed.Comparison comparisons.AtMost) = codes "<="
text_of (fixed.Comparison comparisons.Above) = codes ">"
text_of (fixed.Comparison comparisons.AtLeast) = codes ">="
text_of fixed.Open = codes "("
text_of fixed.Close = codes ")"
text_of fixed.OpenList = codes "["
text_of fixed.CloseList = codes "]"
text_of fixed.Comma = codes ","

abbrev pub all_fixed : List Fixed
all_fixed = fixed.Join connectives.Or ∷ fixed.Join connectives.Xor ∷ fixed.Join connectives.And
    ∷ fixed.Not ∷ fixed.If ∷ fixed.Then ∷ fixed.Each ∷ fixed.Any ∷ fixed.At ∷ fixed.Keys
    ∷ fixed.Least ∷ fixed.Of ∷ fixed.Relation relations.StartsWith
    ∷ fixed.Relation relations.EndsWith ∷ fixed.Relation relations.Contains
    ∷ fixed.Relation relations.Matches ∷ fixed.In ∷ fixed.State states.Exists
    ∷ fixed.State states.Missing ∷ fixed.State states.IsEmpty ∷ fixed.Length ∷ fixed.Is
    ∷ fixed.ValueKind value_kinds.Text ∷ fixed.ValueKind value_kinds.Number
    ∷ fixed.ValueKind value_kinds.Whole ∷ fixed.ValueKind value_kinds.Boolean
    ∷ fixed.ValueKind value_kinds.Array ∷ fixed.ValueKind value_kinds.Object
    ∷ fixed.ValueKind value_kinds.Null ∷ fixed.Boolean true ∷ fixed.Boolean false
    ∷ fixed.Comparison comparisons.Equal ∷ fixed.Comparison comparisons.Unequal
    ∷ fixed.Comparison comparisons.Below ∷ fixed.Comparison comparisons.AtMost
    ∷ fixed.Comparison comparisons.Above ∷ fixed.Comparison comparisons.AtLeast ∷ fixed.Open
    ∷ fixed.Close ∷ fixed.OpenList ∷ fixed.CloseList ∷ fixed.Comma ∷ []

unfoldable pub fixed_at : List ℕ → Option Fixed
fixed_at word = find (λ f. bytes_eq (text_of f) word) all_fixed

-- ---- bytes

abbrev pub is_between : ℕ → ℕ → ℕ → Bool
is_between low high b = nat_le low b && nat_le b high

abbrev pub is_digit : ℕ → Bool
is_digit b = is_between 48 57 b

-- a letter or _
abbrev pub is_letter : ℕ → Bool
is_letter b = is_between 97 122 b || is_between 65 90 b || b == 95

-- = ! < >
abbrev pub is_symbol : ℕ → Bool
is_symbol b = is_between 60 62 b || b == 33

-- ( ) , [ ]
abbrev pub is_mark : ℕ → Bool
is_mark b = b == 40 || b == 41 || b == 44 || b == 91 || b == 93

-- a space, a tab or a carriage return
abbrev pub is_space : ℕ → Bool
is_space b = b == 32 || b == 9 || b == 13

-- no character of a line, though a space may be one
abbrev pub is_control : ℕ → Bool
is_control b = nat_le b 31 || b == 127

-- the token that the byte begins; a number may begin with a minus, and a path with ^
abbrev pub class_of : ℕ → Class
class_of b = if is_letter b then Letter
    else if is_digit b || b == 45 then Digit
    else if is_symbol b then Symbol
    else if is_mark b then Mark
    else if b == 47 || b == 94 then Slash
    else if b == 34 then Quote
    else Other

-- Which bytes belong together. A path ends at a space, a mark, an operator, a comment and a control
-- character; the name of a rule has letters, digits, _ - . and bytes beyond ASCII.
abbrev pub continues : Class → ℕ → Bool
continues Letter b = is_letter b || is_digit b
continues Digit b = is_letter b || is_digit b || b == 43 || b == 45 || b == 46
continues Symbol b = is_symbol b
continues Slash b = not (is_space b || is_mark b || is_symbol b || b == 35 || is_control b)
continues Space b = is_space b
continues Name b = is_letter b || is_digit b || b == 45 || b == 46 || nat_le 128 b
continues c b = false

-- How many bytes of a text there are up to the quote that closes it, with that quote. A backslash
-- takes the next byte with it.
abbrev pub text_end : Bool → List ℕ → Option ℕ
text_end escaped [] = None
text_end escaped (b ∷ text) = if not escaped && b == 34 then Some 1
    else option_map suc (text_end (not escaped && b == 92) text)

abbrev pub class_len : Class → List ℕ → Option ℕ
class_len Quote text = option_map suc (text_end false text)
class_len c text = Some (suc (prefix_len (continues c) text))

-- how many bytes the token at the front takes: as many as belong to it; none is known of a text
-- that isn't closed
abbrev pub token_len : List ℕ → Option ℕ
token_len [] = Some 0
token_len (b ∷ text) = class_len (class_of b) text

-- the token at the front, and what is behind it
unfoldable pub cut : List ℕ → Option (List ℕ × List ℕ)
cut text = option_map (λ n. (take n text, drop n text)) (token_len text)

-- ---- names and paths

-- the control characters beyond ASCII, and the no-break spaces
abbrev pub is_hidden : ℕ → Bool
is_hidden c = is_between 128 160 c || c == 8199 || c == 8239 || c == 8288 || c == 65279

-- UTF-8 with no control character beyond ASCII and no no-break space
unfoldable pub is_shown : List ℕ → Bool
is_shown word = is_utf8 word && not (list_any is_hidden (chars word))

-- the control characters and the no-break spaces
abbrev pub is_masked : ℕ → Bool
is_masked c = is_hidden c || is_control c

abbrev pub is_quoted : List ℕ → Bool
is_quoted [] = false
is_quoted (b ∷ text) = b == 34

-- what is not empty, with no control character and no no-break space
unfoldable pub is_title : List ℕ → Bool
is_title name = nat_lt 0 (length name) && not (list_any is_masked (chars name))

-- ---- tokens

-- a literal as JSON has it
abbrev pub data_of : Literal → Data
data_of (Natural n) = number (unsigned n)
data_of (Negative z) = number (negative z)
data_of (Decimal text x) = number (float x)
data_of (Text text) = string text
data_of (Boolean b) = boolean b
data_of Null = null

-- a literal that keeps its text is written as that
abbrev pub IsTextOf : Literal → List ℕ → Type 0
IsTextOf (Decimal text x) word = text ≡ word
IsTextOf v word = Unit {0}

abbrev pub begins_literal : Class → Bool
begins_literal Digit = true
begins_literal Quote = true
begins_literal c = false

-- it begins with /, or with ^ and /
abbrev pub is_path : List ℕ → Bool
is_path [] = false
is_path (b ∷ []) = b == 47
is_path (b ∷ c ∷ bytes) = b == 47 || b == 94 && c == 47

-- The pointer that is written so: / is the empty one. Where it begins with ^, a pointer follows.
abbrev pub pointer : List ℕ → List ℕ
pointer (b ∷ []) = []
pointer (b ∷ c ∷ []) = if b == 94 && c == 47 then b ∷ [] else b ∷ c ∷ []
pointer word = word

-- a token as it is written
pub data IsWritten : Sign → List ℕ → Type 0 where
  -- a word, an operator or a mark
  fixed_text : (f : Fixed) → IsWritten (signs.Word f) (text_of f)
  -- a number or a text in quotes: what JSON reads there
  literal : (b : ℕ) (bytes : List ℕ) (v : Literal) → begins_literal (class_of b) ≡ true
      → is_utf8 (b ∷ bytes) ≡ true → read (b ∷ bytes) ≡ Some (data_of v) → IsTextOf v (b ∷ bytes)
      → IsWritten (signs.Literal v) (b ∷ bytes)
  path : (b : ℕ) (bytes : List ℕ) → class_of b ≡ Slash → is_path (b ∷ bytes) ≡ true
      → is_shown (b ∷ bytes) ≡ true → IsWritten (signs.Path (pointer (b ∷ bytes))) (b ∷ bytes)

-- the end, or a comment
abbrev pub is_over : List ℕ → Bool
is_over [] = true
is_over (b ∷ text) = b == 35

-- Spaces and tokens up to the end or a comment, each with the number of bytes from it on.
pub data IsLexed : List ℕ → List (Sign × ℕ) → Type 0 where
  over : {text : List ℕ} → is_over text ≡ true → IsLexed text ((signs.End, length text) ∷ [])
  space : {b : ℕ} {text : List ℕ} {ts : List (Sign × ℕ)} → is_space b ≡ true → IsLexed text ts
      → IsLexed (b ∷ text) ts
  token : {text : List ℕ} {ts : List (Sign × ℕ)} {t : Sign} {word rest : List ℕ}
      → cut text ≡ Some (word, rest) → IsWritten t word → IsLexed rest ts
      → IsLexed text ((t, length text) ∷ ts)
