-- Reading tokens from left to right, with the first fault that is met.
use Rattle.std.specs.Prelude.{ℕ, zero, suc, Bool, true, false, List, [], ◌∷◌, length, Option, Some}
use Rattle.std.specs.Prelude.{None, is_some, Result, Ok, Err, if◌then◌else◌}
use Rattle.std.specs.Str.{bytes_eq}
use Rattle.vet_rules.specs.declared.expression.Connective.{Connective}
use Rattle.vet_rules.specs.declared.expression.Connective.TheVariants.{Or, Xor, And}
use Rattle.vet_rules.specs.declared.expression.HowMany.{HowMany}
use Rattle.vet_rules.specs.declared.expression.HowMany.TheVariants as quantifiers
use Rattle.vet_rules.specs.declared.parser.Separator.{Separator}
use Rattle.vet_rules.specs.declared.parser.Separator.TheVariants as separators
use Rattle.vet_rules.specs.declared.condition.Comparison.{Comparison}
use Rattle.vet_rules.specs.declared.condition.ValueKind.{ValueKind}
use Rattle.vet_rules.specs.declared.fixed.Fixed.{Fixed}
use Rattle.vet_rules.specs.declared.fixed.Fixed.TheVariants as fixed
use Rattle.vet_rules.specs.declared.error.Expected.{Expected}
use Rattle.vet_rules.specs.declared.error.Expected.TheVariants as expected
use Rattle.vet_rules.specs.declared.error.Reason.TheVariants.{TooDeep}
use Rattle.vet_rules.specs.declared.stop.Stop.{Stop}
use Rattle.vet_rules.specs.Literals.{Literal, Natural}
use Rattle.vet_rules.specs.Signs as signs
use Rattle.vet_rules.specs.Signs.{Sign}
use Rattle.vet_rules.specs.Conditions.{Condition, Is, Compare, CompareWith, Length, IsOf}
use Rattle.vet_rules.specs.Conditions.{Relate, In, KeysIn}
use Rattle.vet_rules.specs.Trees.{Tree, Test, Not, Implies, Quantified, Joined, AtLeast}
use Rattle.vet_rules.specs.Trees.{more, trees_of}
use Rattle.vet_rules.specs.Grammar.{Level, By, Single, Whole, Premise, tighter}
use Rattle.vet_rules.specs.Grammar.{path_in, value_in, text_in}
use Rattle.vet_rules.specs.Lexemes.{text_of}
use Rattle.vet_rules.specs.Answers.{◌>>=◌, stops}

abbrev pub Reader : Type 0 → Type 0
Reader A = List Sign → Result (A × List Sign) Stop

abbrev pub Answer : Type 0
Answer = Result (Tree × List Sign) Stop

-- something else stands at the front
abbrev pub fails : {A : Type 0} → Expected → List Sign → Result A Stop
fails x ts = stops x (length ts)

-- ---- one token

abbrev pub is_word : Fixed → Sign → Bool
is_word w (signs.Word f) = bytes_eq (text_of f) (text_of w)
is_word w t = false

-- what stands behind the word, if it is next
unfoldable pub next_word : Fixed → List Sign → Option (List Sign)
next_word w [] = None
next_word w (t ∷ ts) = if is_word w t then Some ts else None

abbrev pub or_fails : {A : Type 0} → Expected → List Sign → Option A → Result A Stop
or_fails x ts (Some a) = Ok a
or_fails x ts None = fails x ts

-- what stands behind the word, where else x is expected
unfoldable pub after : Fixed → Expected → List Sign → Result (List Sign) Stop
after w x ts = or_fails x ts (next_word w ts)

abbrev pub before : {A : Type 0} → List Sign → Option A → Option (A × List Sign)
before ts (Some a) = Some (a, ts)
before ts None = None

-- what the first token is seen as
unfoldable pub one_at : {A : Type 0} → (Sign → Option A) → Expected → Reader A
one_at seen x [] = fails x []
one_at seen x (t ∷ ts) = or_fails x (t ∷ ts) (before ts (seen t))

unfoldable pub count_at : Reader ℕ
count_at (signs.Literal (Natural k) ∷ ts) = Ok (k, ts)
count_at ts = fails expected.Count ts

unfoldable pub comparison_at : Reader Comparison
comparison_at (signs.Word (fixed.Comparison o) ∷ ts) = Ok (o, ts)
comparison_at ts = fails expected.Comparison ts

unfoldable pub kind_at : Reader ValueKind
kind_at (signs.Word (fixed.ValueKind k) ∷ ts) = Ok (k, ts)
kind_at ts = fails expected.Kind ts

-- ---- rows

-- one more part, if the word was next
abbrev pub with_next : {A : Type 0} → Reader A → Reader (List A) → List Sign → Option (List Sign)
    → Result (List A × List Sign) Stop
with_next part go ts None = Ok ([], ts)
with_next part go ts (Some us) = part us >>= λ e. go e.1 >>= λ x. Ok (e.0 ∷ x.0, x.1)

-- The parts behind the first one, each with the word before it; there are at most k.
unfoldable pub parts_at : {A : Type 0} → ℕ → Fixed → Reader A → Reader (List A)
parts_at zero w part ts = Ok ([], ts)
parts_at (suc k) w part ts = with_next part (parts_at k w part) ts (next_word w ts)

-- parts with commas between them, up to the word that closes
unfoldable pub row_at : {A : Type 0} → Fixed → Expected → Reader A → Reader (List A)
row_at w x part ts = do
  e ← part ts
  es ← parts_at (length e.1) fixed.Comma part e.1
  rest ← after w x es.1
  Ok (e.0 ∷ es.0, rest)

abbrev pub or_row : {A : Type 0} → Reader A → List Sign → Option (List Sign)
    → Result (List A × List Sign) Stop
or_row part ts (Some us) = Ok ([], us)
or_row part ts None = row_at fixed.CloseList expected.ListGoesOn part ts

-- what stands behind the bracket that opens a list
unfoldable pub items_at : {A : Type 0} → Reader A → Reader (List A)
items_at part ts = or_row part ts (next_word fixed.CloseList ts)

unfoldable pub list_at : {A : Type 0} → Reader A → Reader (List A)
list_at part ts = after fixed.OpenList expected.List ts >>= items_at part

-- ---- tests

-- another path that a value is compared with
unfoldable pub other_path_at : Comparison → Reader Condition
other_path_at o (signs.Path path ∷ ts) = Ok (CompareWith o path, ts)
other_path_at o ts = fails expected.Operand ts

abbrev pub operand_at : Comparison → List Sign → List Sign → Option Literal
    → Result (Condition × List Sign) Stop
operand_at o ts us (Some v) = Ok (Compare o v, us)
operand_at o ts us None = other_path_at o ts

-- what a value is compared with
unfoldable pub compared_at : Comparison → Reader Condition
compared_at o [] = fails expected.Operand []
compared_at o (t ∷ ts) = operand_at o (t ∷ ts) ts (value_in t)

-- what a length is compared with
unfoldable pub length_at : Reader Condition
length_at ts = do
  o ← comparison_at ts
  n ← count_at o.1
  Ok (Length o.0 n.0, n.1)

-- what is said behind a path, by the word there
unfoldable pub said_by : Fixed → Reader Condition
said_by (fixed.State s) ts = Ok (Is s, ts)
said_by (fixed.Comparison o) ts = compared_at o ts
said_by fixed.Length ts = length_at ts
said_by fixed.Is ts = kind_at ts >>= λ x. Ok (IsOf x.0, x.1)
said_by (fixed.Relation r) ts = one_at text_in expected.Text ts >>= λ x. Ok (Relate r x.0, x.1)
said_by fixed.In ts = list_at (one_at value_in expected.Literal) ts >>= λ x. Ok (In x.0, x.1)
said_by f ts = fails expected.Condition (signs.Word f ∷ ts)

unfoldable pub condition_at : Reader Condition
condition_at (signs.Word f ∷ ts) = said_by f ts
condition_at ts = fails expected.Condition ts

unfoldable pub test_at : List Sign → Answer
test_at ts = do
  path ← one_at path_in expected.Expression ts
  x ← condition_at path.1
  Ok (Test path.0 x.0, x.1)

-- what stands behind `keys`
unfoldable pub keys_at : List Sign → Answer
keys_at ts = do
  path ← one_at path_in expected.Path ts
  us ← after fixed.In expected.In path.1
  x ← list_at (one_at text_in expected.Text) us
  Ok (Test path.0 (KeysIn x.0), x.1)

-- ---- expressions

-- The readers take the reader of what is one deeper.

unfoldable pub group : (Level → List Sign → Answer) → List Sign → Answer
group deeper ts = do
  e ← deeper Whole ts
  rest ← after fixed.Close expected.Close e.1
  Ok (e.0, rest)

-- what is expected where no path stands
unfoldable pub quantified : (Level → List Sign → Answer) → Expected → HowMany → List Sign → Answer
quantified deeper x q ts = do
  path ← one_at path_in x ts
  us ← after fixed.Open expected.Open path.1
  e ← group deeper us
  Ok (Quantified q path.0 e.0, e.1)

-- the parts that a threshold lists
unfoldable pub listed : (Level → List Sign → Answer) → ℕ → List Sign → Answer
listed deeper k ts = do
  us ← after fixed.Open expected.Open ts
  x ← row_at fixed.Close expected.PartsGoOn (deeper Whole) us
  Ok (AtLeast k (trees_of x.0), x.1)

abbrev pub counted_by : (Level → List Sign → Answer) → ℕ → List Sign → Option (List Sign) → Answer
counted_by deeper k ts (Some us) = listed deeper k us
counted_by deeper k ts None = quantified deeper expected.Counted (quantifiers.AtLeast k) ts

-- what is counted
unfoldable pub counted : (Level → List Sign → Answer) → ℕ → List Sign → Answer
counted deeper k ts = counted_by deeper k ts (next_word fixed.Of ts)

unfoldable pub threshold : (Level → List Sign → Answer) → List Sign → Answer
threshold deeper ts = do
  us ← after fixed.Least expected.Least ts
  k ← count_at us
  counted deeper k.0 k.1

-- what begins with a word
unfoldable pub begun_by : (Level → List Sign → Answer) → Fixed → List Sign → Answer
begun_by deeper fixed.Not ts = deeper Single ts >>= λ x. Ok (Not x.0, x.1)
begun_by deeper fixed.Open ts = group deeper ts
begun_by deeper fixed.Each ts = quantified deeper expected.Path quantifiers.Each ts
begun_by deeper fixed.Any ts = quantified deeper expected.Path quantifiers.Any ts
begun_by deeper fixed.At ts = threshold deeper ts
begun_by deeper fixed.Keys ts = keys_at ts
begun_by deeper f ts = fails expected.Expression (signs.Word f ∷ ts)

unfoldable pub single : (Level → List Sign → Answer) → List Sign → Answer
single deeper (signs.Word f ∷ ts) = begun_by deeper f ts
single deeper ts = test_at ts

abbrev pub join : Connective → Tree → List Tree → Tree
join c e [] = e
join c e (f ∷ es) = Joined c (more e (trees_of (f ∷ es)))

unfoldable pub chain : Connective → (List Sign → Answer) → List Sign → Answer
chain c part ts = do
  e ← part ts
  x ← parts_at (length e.1) (fixed.Join c) part e.1
  Ok (join c e.0 x.0, x.1)

-- what `or` and what binds tighter joins
abbrev pub loosest : (Level → List Sign → Answer) → List Sign → Answer
loosest deeper = chain Or (chain Xor (chain And (single deeper)))

-- what stands behind an `if`
unfoldable pub implication : (Level → List Sign → Answer) → List Sign → Answer
implication deeper ts = do
  a ← deeper Premise ts
  us ← after fixed.Then expected.Then a.1
  b ← deeper Whole us
  Ok (Implies a.0 b.0, b.1)

abbrev pub is_first : Fixed → Bool
is_first fixed.Not = true
is_first fixed.Open = true
is_first fixed.Each = true
is_first fixed.Any = true
is_first fixed.At = true
is_first fixed.Keys = true
is_first f = false

-- whether an expression other than an implication may begin so
abbrev pub begins : List Sign → Bool
begins [] = false
begins (signs.Word f ∷ ts) = is_first f
begins (t ∷ ts) = is_some (path_in t)

abbrev pub whole_by : (Level → List Sign → Answer) → List Sign → Option (List Sign) → Answer
whole_by deeper ts (Some us) = implication deeper us
whole_by deeper ts None = if begins ts then loosest deeper ts else fails expected.Whole ts

unfoldable pub whole : (Level → List Sign → Answer) → List Sign → Answer
whole deeper ts = whole_by deeper ts (next_word fixed.If ts)

unfoldable pub at_level : (Level → List Sign → Answer) → Level → List Sign → Answer
at_level deeper Single ts = single deeper ts
at_level deeper (By And) ts = chain And (single deeper) ts
at_level deeper (By Xor) ts = chain Xor (chain And (single deeper)) ts
at_level deeper (By Or) ts = loosest deeper ts
at_level deeper Whole ts = whole deeper ts
at_level deeper Premise ts = deeper Whole ts

-- a part of a row
abbrev pub part_at : (Level → List Sign → Answer) → Separator → List Sign → Answer
part_at deeper (separators.Connective c) = at_level deeper (tighter c)
part_at deeper separators.Comma = deeper Whole

-- what is below n levels of nesting
unfoldable pub below : ℕ → Level → List Sign → Answer
below zero level ts = Err (record { reason = TooDeep; left = length ts })
below (suc n) level ts = at_level (below n) level ts

abbrev pub is_end : List Sign → Bool
is_end (signs.End ∷ []) = true
is_end ts = false

-- nothing is left
unfoldable pub ended : Tree × List Sign → Result Tree Stop
ended x = if is_end x.1 then Ok x.0 else fails expected.End x.1

unfoldable pub all_of : ℕ → List Sign → Result Tree Stop
all_of n ts = below (suc n) Whole ts >>= ended
