-- Which text says which rules.
use Rattle.std.specs.Prelude.{◌≡◌, ◌≢◌, ℕ, ◌<◌, ◌==◌, nat_eq, true, List, [], ◌∷◌, ◌++◌, map}
use Rattle.std.specs.Prelude.{length, drop, string_bytes, Vec, Option, Some, None, if◌then◌else◌}
use Rattle.std.specs.Prelude.{Result, Ok, Err}
use Rattle.std.specs.declared.alloc.Global.{Global}
use Rattle.std.specs.List.{prefix_len, list_all, slice_split, starts_with}
use Rattle.vet_rules.specs.declared.lexer.Class.TheVariants.{Space, Name}
use Rattle.vet_rules.specs.declared.rule.Rule.{Rule}
use Rattle.vet_rules.specs.declared.error.RulesError.{RulesError}
use Rattle.vet_rules.specs.declared.error.RulesError.TheVariants.{NoMemory, Unreadable}
use Rattle.vet_rules.specs.Literals.{Text}
use Rattle.vet_rules.specs.Signs as signs
use Rattle.vet_rules.specs.Signs.{Sign}
use Rattle.vet_rules.specs.Trees.{Tree, tree_of}
use Rattle.vet_rules.specs.Grammar.{IsSpelled}
use Rattle.vet_rules.specs.Lexemes.{continues, cut, is_over, is_quoted, is_shown, is_title}
use Rattle.vet_rules.specs.Lexemes.{IsWritten, IsLexed}

-- the text is spaces and tokens, and the tokens spell the expression, which nests at most n deep
abbrev pub Says : ℕ → List ℕ → Tree → Type 0
Says n text e = (ts : List (Sign × ℕ)) × IsLexed text ts × IsSpelled n (map (λ t. t.0) ts) e

abbrev pub after_spaces : List ℕ → List ℕ
after_spaces line = drop (prefix_len (continues Space) line) line

-- behind spaces the line begins with the name of a rule, a colon and a text
pub data Heads : List ℕ → List ℕ → List ℕ → Type 0 where
  -- as it is
  bare : {line name text : List ℕ} → 0 < length name → list_all (continues Name) name ≡ true
      → is_shown name ≡ true → after_spaces line ≡ name ++ 58 ∷ text → Heads line name text
  -- in quotes
  quoted : {line word name text : List ℕ} → is_quoted (after_spaces line) ≡ true
      → cut (after_spaces line) ≡ Some (word, 58 ∷ text)
      → IsWritten (signs.Literal (Text name)) word → is_title name ≡ true → Heads line name text

-- a line, and its rule if it has one
pub data IsLine : ℕ → List ℕ → Option (List ℕ × Tree) → Type 0 where
  -- spaces and a comment, or less
  blank : {n : ℕ} {line : List ℕ} → is_over (after_spaces line) ≡ true → IsLine n line None
  -- NAME: EXPRESSION
  rule : {n : ℕ} {line name text : List ℕ} {e : Tree} → Heads line name text → Says n text e
      → IsLine n line (Some (name, e))

-- the rules of lines, in their order
pub data AreRules : ℕ → List (List ℕ) → List (List ℕ × Tree) → Type 0 where
  no_more : {n : ℕ} → AreRules n [] []
  skipped : {n : ℕ} {line : List ℕ} {lines : List (List ℕ)} {rs : List (List ℕ × Tree)}
      → IsLine n line None → AreRules n lines rs → AreRules n (line ∷ lines) rs
  taken : {n : ℕ} {line : List ℕ} {r : List ℕ × Tree} {lines : List (List ℕ)}
      {rs : List (List ℕ × Tree)} → IsLine n line (Some r) → AreRules n lines rs
      → AreRules n (line ∷ lines) (r ∷ rs)

-- the byte order mark that an editor may put before a text
abbrev pub mark : List ℕ
mark = 239 ∷ 187 ∷ 191 ∷ []

abbrev pub without_mark : List ℕ → List ℕ
without_mark text = if starts_with nat_eq text mark then drop 3 text else text

-- the lines of a text, which line feeds part, without its byte order mark
abbrev pub lines_of : List ℕ → List (List ℕ)
lines_of text = slice_split (λ b. b == 10) (without_mark text)

-- no rule has this name
abbrev pub NoneNamed : List ℕ → List (List ℕ × Tree) → Type 0
NoneNamed name [] = Unit {0}
NoneNamed name (r ∷ rs) = (name ≢ r.0) × NoneNamed name rs

-- no two rules have the same name
abbrev pub AreApart : List (List ℕ × Tree) → Type 0
AreApart [] = Unit {0}
AreApart (r ∷ rs) = NoneNamed r.0 rs × AreApart rs

-- the rules of a text
abbrev pub AreRulesOf : ℕ → List ℕ → List (List ℕ × Tree) → Type 0
AreRulesOf n text rs = AreRules n (lines_of text) rs × AreApart rs

-- a rule without where it lies in memory
abbrev pub rule_of : Rule → List ℕ × Tree
rule_of r = (string_bytes r.name, tree_of r.expression)

-- what was read is these rules, unless memory ran out
abbrev pub AreRead : Result (Vec Rule Global) RulesError → List (List ℕ × Tree) → Type 0
AreRead (Ok v) rs = map rule_of v.items ≡ rs
AreRead (Err NoMemory) rs = Unit {0}
AreRead (Err (Unreadable fault)) rs = ⊥
