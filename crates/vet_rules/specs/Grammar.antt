-- Which tokens spell which expression.
use Rattle.std.specs.Prelude.{◌≡◌, ℕ, suc, List, [], ◌∷◌, Option, Some, None, if◌then◌else◌}
use Rattle.vet_rules.specs.declared.expression.Connective.{Connective}
use Rattle.vet_rules.specs.declared.expression.Connective.TheVariants.{Or, Xor, And}
use Rattle.vet_rules.specs.declared.expression.HowMany.{HowMany}
use Rattle.vet_rules.specs.declared.expression.HowMany.TheVariants as quantifiers
use Rattle.vet_rules.specs.declared.parser.Separator.{Separator}
use Rattle.vet_rules.specs.declared.parser.Separator.TheVariants as separators
use Rattle.vet_rules.specs.declared.condition.Comparison.{Comparison}
use Rattle.vet_rules.specs.declared.condition.Relation.{Relation}
use Rattle.vet_rules.specs.declared.condition.State.{State}
use Rattle.vet_rules.specs.declared.condition.ValueKind.{ValueKind}
use Rattle.vet_rules.specs.declared.condition.ValueKind.TheVariants as value_kinds
use Rattle.vet_rules.specs.declared.fixed.Fixed.{Fixed}
use Rattle.vet_rules.specs.declared.fixed.Fixed.TheVariants as fixed
use Rattle.vet_rules.specs.Literals.{Literal, Natural, Text, Boolean, Null}
use Rattle.vet_rules.specs.Signs as signs
use Rattle.vet_rules.specs.Signs.{Sign}
use Rattle.vet_rules.specs.Lexemes.{is_path, pointer}
use Rattle.vet_rules.specs.Conditions.{Condition, Is, Compare, CompareWith, Length, IsOf}
use Rattle.vet_rules.specs.Conditions.{Relate, In, KeysIn}
use Rattle.vet_rules.specs.Trees.{Tree, Test, Not, Implies, Quantified, Joined, AtLeast}
use Rattle.vet_rules.specs.Trees.{Trees, none, more}

-- How tightly an expression holds together: one joined by c or by what binds tighter, or a single
-- one. A whole one may be an implication too. So may a premise, what stands behind an `if`, which
-- counts one level of nesting more: what denies it nests no deeper than the implication then.
pub data Level : Type 0 where
  By : (c : Connective) → Level
  Single : Level
  Whole : Level
  Premise : Level

-- `or` binds weakest, then `xor`, then `and`
abbrev pub tighter : Connective → Level
tighter Or = By Xor
tighter Xor = By And
tighter And = Single

-- What parts the expressions of a row: the connective that joins them, or a comma. Behind a comma
-- stands any expression.
abbrev pub separator_word : Separator → Fixed
separator_word (separators.Connective c) = fixed.Join c
separator_word separators.Comma = fixed.Comma

abbrev pub part_level : Separator → Level
part_level (separators.Connective c) = tighter c
part_level separators.Comma = Whole

-- the path that a token is, as it is or as a text in quotes
abbrev pub path_in : Sign → Option (List ℕ)
path_in (signs.Path path) = Some path
path_in (signs.Literal (Text text)) = if is_path text then Some (pointer text) else None
path_in t = None

-- the literal that it is
abbrev pub value_in : Sign → Option Literal
value_in (signs.Literal v) = Some v
value_in (signs.Word (fixed.Boolean b)) = Some (Boolean b)
value_in (signs.Word (fixed.ValueKind value_kinds.Null)) = Some Null
value_in t = None

-- the text that it is
abbrev pub text_in : Sign → Option (List ℕ)
text_in (signs.Literal (Text text)) = Some text
text_in t = None

-- In each relation the first list is the tokens, and the last one what is left of them behind the
-- phrase.

-- v , .. , v ]
pub data Items {A : Type 0} (seen : Sign → Option A) : List Sign → List A → List Sign → Type 0 where
  last : {t : Sign} {v : A} {rest : List Sign} → seen t ≡ Some v
      → Items seen (t ∷ signs.Word fixed.CloseList ∷ rest) (v ∷ []) rest
  another : {t : Sign} {v : A} {ts rest : List Sign} {vs : List A} → seen t ≡ Some v
      → Items seen ts vs rest → Items seen (t ∷ signs.Word fixed.Comma ∷ ts) (v ∷ vs) rest

-- [ v , .. , v ]
pub data IsList {A : Type 0} (seen : Sign → Option A) : List Sign → List A → List Sign → Type 0
  where
    no_items : {rest : List Sign}
        → IsList seen (signs.Word fixed.OpenList ∷ signs.Word fixed.CloseList ∷ rest) [] rest
    items : {ts rest : List Sign} {vs : List A} → Items seen ts vs rest
        → IsList seen (signs.Word fixed.OpenList ∷ ts) vs rest

-- what is said of the value at a path
pub data IsCondition : List Sign → Condition → List Sign → Type 0 where
  -- WORD
  word : {s : State} {rest : List Sign}
      → IsCondition (signs.Word (fixed.State s) ∷ rest) (Is s) rest
  -- OPERATOR LITERAL
  compare : {o : Comparison} {t : Sign} {v : Literal} {rest : List Sign}
      → value_in t ≡ Some v
      → IsCondition (signs.Word (fixed.Comparison o) ∷ t ∷ rest) (Compare o v) rest
  -- OPERATOR PATH
  compare_with : {o : Comparison} {path : List ℕ} {rest : List Sign}
      → IsCondition (signs.Word (fixed.Comparison o) ∷ signs.Path path ∷ rest) (CompareWith o path)
      rest
  -- length OPERATOR NUMBER
  has_length : {o : Comparison} {n : ℕ} {rest : List Sign} → IsCondition (signs.Word fixed.Length
      ∷ signs.Word (fixed.Comparison o) ∷ signs.Literal (Natural n) ∷ rest) (Length o n) rest
  -- is KIND
  of_kind : {k : ValueKind} {rest : List Sign}
      → IsCondition (signs.Word fixed.Is ∷ signs.Word (fixed.ValueKind k) ∷ rest) (IsOf k) rest
  -- OPERATOR TEXT
  relate : {r : Relation} {t : Sign} {text : List ℕ} {rest : List Sign}
      → text_in t ≡ Some text
      → IsCondition (signs.Word (fixed.Relation r) ∷ t ∷ rest) (Relate r text) rest
  -- in [ v , .. , v ]
  among : {ts rest : List Sign} {vs : List Literal} → IsList value_in ts vs rest
      → IsCondition (signs.Word fixed.In ∷ ts) (In vs) rest

-- how many items have to meet an expression
pub data IsQuantifier : List Sign → HowMany → List Sign → Type 0 where
  -- each
  each : {rest : List Sign} → IsQuantifier (signs.Word fixed.Each ∷ rest) quantifiers.Each rest
  -- any
  any : {rest : List Sign} → IsQuantifier (signs.Word fixed.Any ∷ rest) quantifiers.Any rest
  -- at least K
  at_least_items : {k : ℕ} {rest : List Sign} → IsQuantifier
      (signs.Word fixed.At ∷ signs.Word fixed.Least ∷ signs.Literal (Natural k) ∷ rest)
      (quantifiers.AtLeast k) rest

mutual
  -- An expression of a level, which nests at most n deep. What `not` denies, what stands in
  -- parentheses and what an implication is made of is one deeper, and its premise two; what is
  -- joined or listed is not.
  pub data Spells : ℕ → Level → List Sign → Tree → List Sign → Type 0 where
    -- PATH ..
    test : {n : ℕ} {p : Sign} {path : List ℕ} {t : Condition} {ts rest : List Sign}
        → path_in p ≡ Some path → IsCondition ts t rest
        → Spells n Single (p ∷ ts) (Test path t) rest
    -- keys PATH in [ T , .. , T ]
    keys : {n : ℕ} {p : Sign} {path : List ℕ} {texts : List (List ℕ)} {ts rest : List Sign}
        → path_in p ≡ Some path → IsList text_in ts texts rest
        → Spells n Single (signs.Word fixed.Keys ∷ p ∷ signs.Word fixed.In ∷ ts)
        (Test path (KeysIn texts)) rest
    -- not E
    denied : {n : ℕ} {e : Tree} {ts rest : List Sign} → Spells n Single ts e rest
        → Spells (suc n) Single (signs.Word fixed.Not ∷ ts) (Not e) rest
    -- ( E )
    group : {n : ℕ} {e : Tree} {ts rest : List Sign}
        → Spells n Whole ts e (signs.Word fixed.Close ∷ rest)
        → Spells (suc n) Single (signs.Word fixed.Open ∷ ts) e rest
    -- each PATH ( E )    any PATH ( E )    at least K PATH ( E )
    quantified : {n : ℕ} {q : HowMany} {p : Sign} {path : List ℕ} {e : Tree}
        {ts us rest : List Sign} → path_in p ≡ Some path
        → IsQuantifier ts q (p ∷ signs.Word fixed.Open ∷ us)
        → Spells n Whole us e (signs.Word fixed.Close ∷ rest)
        → Spells (suc n) Single ts (Quantified q path e) rest
    -- at least K of ( E , .. , E )
    at_least : {n k : ℕ} {e : Tree} {es : Trees} {ts us rest : List Sign} → Spells n Whole ts e us
        → Follow n separators.Comma us es (signs.Word fixed.Close ∷ rest)
        → Spells (suc n) Single (signs.Word fixed.At ∷ signs.Word fixed.Least
        ∷ signs.Literal (Natural k) ∷ signs.Word fixed.Of ∷ signs.Word fixed.Open ∷ ts)
        (AtLeast k (more e es)) rest
    -- what binds tighter, alone
    alone : {n : ℕ} {c : Connective} {e : Tree} {ts rest : List Sign}
        → Spells n (tighter c) ts e rest → Spells n (By c) ts e rest
    -- E c E .. c E
    joined : {n : ℕ} {c : Connective} {e f : Tree} {es : Trees} {ts us rest : List Sign}
        → Spells n (tighter c) ts e us → Follow n (separators.Connective c) us (more f es) rest
        → Spells n (By c) ts (Joined c (more e (more f es))) rest
    -- without `if`
    no_if : {n : ℕ} {e : Tree} {ts rest : List Sign} → Spells n (By Or) ts e rest
        → Spells n Whole ts e rest
    -- if E then E
    implied : {n : ℕ} {a b : Tree} {ts us rest : List Sign}
        → Spells n Premise ts a (signs.Word fixed.Then ∷ us) → Spells n Whole us b rest
        → Spells (suc n) Whole (signs.Word fixed.If ∷ ts) (Implies a b) rest
    -- what stands behind an `if`
    premise : {n : ℕ} {e : Tree} {ts rest : List Sign} → Spells n Whole ts e rest
        → Spells (suc n) Premise ts e rest

  -- s E .. s E, or nothing
  pub data Follow : ℕ → Separator → List Sign → Trees → List Sign → Type 0 where
    no_more : {n : ℕ} {s : Separator} {rest : List Sign} → Follow n s rest none rest
    and_more : {n : ℕ} {s : Separator} {e : Tree} {es : Trees} {ts us rest : List Sign}
        → Spells n (part_level s) ts e us → Follow n s us es rest
        → Follow n s (signs.Word (separator_word s) ∷ ts) (more e es) rest

-- how deep a rule may nest
abbrev pub max_depth : ℕ
max_depth = 100

-- all of the tokens
abbrev pub IsSpelled : ℕ → List Sign → Tree → Type 0
IsSpelled n ts e = Spells n Whole ts e (signs.End ∷ [])
