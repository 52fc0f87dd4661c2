-- Where a text stops being rules, and why.
use Rattle.std.specs.Prelude.{◌≡◌, ◌≢◌, ℕ, suc, ◌+◌, ◌-◌, ◌<◌, ◌≤◌, true, false, List, [], ◌∷◌}
use Rattle.std.specs.Prelude.{◌++◌, map, length, take, drop, Option, Some, None, option_map}
use Rattle.std.specs.Prelude.{unwrap_or, Err}
use Rattle.std.specs.List.{find, prefix_len}
use Rattle.std.specs.Str.{bytes_eq}
use Rattle.vet_rules.specs.declared.error.Reason.{Reason}
use Rattle.vet_rules.specs.declared.error.Reason.TheVariants.{Expected, TooDeep, Repeated}
use Rattle.vet_rules.specs.declared.error.RulesError.{RulesError}
use Rattle.vet_rules.specs.declared.error.RulesError.TheVariants.{NoMemory, Unreadable}
use Rattle.vet_rules.specs.declared.fault.Fault.{Fault}
use Rattle.vet_rules.specs.declared.hint.Hint.{Hint}
use Rattle.vet_rules.specs.declared.lexer.Class.{Class}
use Rattle.vet_rules.specs.declared.lexer.Class.TheVariants.{Letter, Quote, Slash, Name}
use Rattle.vet_rules.specs.declared.lexer.Class.TheVariants.{Other}
use Rattle.vet_rules.specs.declared.stop.Stop.{Stop}
use Rattle.vet_rules.specs.declared.stop.ReadError.{ReadError}
use Rattle.vet_rules.specs.declared.stop.ReadError.TheVariants as errors
use Rattle.vet_rules.specs.Signs.{Sign}
use Rattle.vet_rules.specs.Trees.{Tree}
use Rattle.vet_rules.specs.Grammar.{max_depth}
use Rattle.vet_rules.specs.Lexemes.{class_of, continues, text_end, is_space, is_over, cut}
use Rattle.vet_rules.specs.Lexemes.{IsWritten, IsLexed}
use Rattle.vet_rules.specs.Scanning.{token_at, after_space}
use Rattle.vet_rules.specs.Reading.{all_of}
use Rattle.vet_rules.specs.Heading.{head_at}
use Rattle.vet_rules.specs.Rules.{after_spaces, Heads, IsLine}

-- behind spaces and tokens no token stands, no space and no end
pub data NoToken : List ℕ → Stop → Type 0 where
  no_token_here : {text : List ℕ} {s : Stop} → is_over text ≡ false → after_space text ≡ None
      → token_at text ≡ Err s → NoToken text s
  behind_space_fault : {b : ℕ} {text : List ℕ} {s : Stop} → is_space b ≡ true → NoToken text s
      → NoToken (b ∷ text) s
  past_token_fault : {text word rest : List ℕ} {t : Sign} {s : Stop} → cut text ≡ Some (word, rest)
      → IsWritten t word → NoToken rest s → NoToken text s

abbrev pub first_left : List (Sign × ℕ) → ℕ
first_left [] = 0
first_left (t ∷ ts) = t.1

-- how many bytes are left where this many tokens are
abbrev pub left_behind : List (Sign × ℕ) → ℕ → ℕ
left_behind ts left = first_left (drop (length ts - left) ts)

abbrev pub in_bytes : List (Sign × ℕ) → Stop → Stop
in_bytes ts s = record { reason = s.reason; left = left_behind ts s.left }

abbrev pub error_in_bytes : List (Sign × ℕ) → ReadError → ReadError
error_in_bytes ts errors.Memory = errors.Memory
error_in_bytes ts (errors.Stopped s) = errors.Stopped (in_bytes ts s)

-- why the text of an expression says none, and how many bytes are left there
pub data IsFault : List ℕ → Stop → Type 0 where
  no_token : {text : List ℕ} {s : Stop} → NoToken text s → IsFault text s
  no_expression : {text : List ℕ} {t : Stop} (ts : List (Sign × ℕ)) (s : Stop) → IsLexed text ts
      → all_of max_depth (map (λ x. x.0) ts) ≡ Err s → t ≡ in_bytes ts s → IsFault text t

-- why a line has no rule and is not blank, and how many of its bytes are left there
pub data IsLineFault : List ℕ → Stop → Type 0 where
  no_head : {line : List ℕ} {s : Stop} → is_over (after_spaces line) ≡ false
      → head_at (after_spaces line) ≡ Err s → IsLineFault line s
  no_rule : {line : List ℕ} {s : Stop} (name text : List ℕ) → Heads line name text → IsFault text s
      → IsLineFault line s

-- the column, from 1, where this many bytes of the line are left
abbrev pub column_at : List ℕ → ℕ → ℕ
column_at line left = length line - left + 1

-- ---- what a fault tells

-- a word goes on as a name does, and what begins no token up to a space, a mark, an operator or #
abbrev pub told_class : Class → Class
told_class Letter = Name
told_class Other = Slash
told_class c = c

-- a text that isn't closed is told to its end
abbrev pub told_rest : Class → List ℕ → ℕ
told_rest Quote text = unwrap_or (text_end false text) (length text)
told_rest c text = prefix_len (continues c) text

-- how many bytes at the front are told
abbrev pub told_len : List ℕ → ℕ
told_len [] = 0
told_len (b ∷ text) = suc (told_rest (told_class (class_of b)) text)

abbrev pub told : List ℕ → List ℕ
told text = take (told_len text) text

-- what stands, behind spaces, where this many bytes of the line are left
abbrev pub found_at : List ℕ → ℕ → List ℕ
found_at line left = told (after_spaces (drop (length line - left) line))

-- what was likely meant is told where something was expected alone
abbrev pub IsHintOf : Reason → Option Hint → Type 0
IsHintOf (Expected e) hint = Unit {0}
IsHintOf TooDeep hint = hint ≡ None
IsHintOf (Repeated line) hint = hint ≡ None

-- the fault where the line with this number stops
abbrev pub IsFaultAt : ℕ → List ℕ → Stop → Fault → Type 0
IsFaultAt number line s f = (f.line ≡ number) × (f.column ≡ column_at line s.left)
    × (f.reason ≡ s.reason) × (f.found.items ≡ found_at line s.left)
    × IsHintOf s.reason f.hint

-- the line with this number has no rule and is not blank
abbrev pub IsUnread : ℕ → List ℕ → Fault → Type 0
IsUnread number line f =
    ((o : Option (List ℕ × Tree)) → IsLine max_depth line o → ⊥)
    × (f.reason ≢ TooDeep → (n : ℕ) (o : Option (List ℕ × Tree)) → IsLine n line o → ⊥)
    × ((s : Stop) × IsLineFault line s × IsFaultAt number line s f)

-- ---- names that stand on more than one line

-- a rule behind the number of its line
abbrev pub Placed : Type 0
Placed = ℕ × (List ℕ × Tree)

abbrev pub bare : List Placed → List (List ℕ × Tree)
bare rs = map (λ (x : Placed). x.1) rs

-- the line of the rule with this name
abbrev pub number_named : List ℕ → List Placed → Option ℕ
number_named name rs =
    option_map (λ (x : Placed). x.0) (find (λ (x : Placed). bytes_eq name x.1.0) rs)

-- the fault of the line with this number, whose rule has the name of the one on the first line
abbrev pub IsRepeatAt : ℕ → ℕ → List ℕ → List ℕ → Fault → Type 0
IsRepeatAt number first line name f = (f.line ≡ number)
    × (f.column ≡ column_at line (length (after_spaces line))) × (f.reason ≡ Repeated first)
    × (f.found.items ≡ name) × (f.hint ≡ None)

-- ---- all lines

-- the rule and the fault of the line with this number, behind lines with these rules
pub data Adds (number : ℕ) (line : List ℕ) (rs : List Placed) : List Placed → List Fault
    → Type 0 where
  nothing : IsLine max_depth line None → Adds number line rs [] []
  a_rule : (r : List ℕ × Tree) → IsLine max_depth line (Some r) → number_named r.0 rs ≡ None
      → Adds number line rs ((number, r) ∷ []) []
  a_repeat : (r : List ℕ × Tree) (first : ℕ) (f : Fault) → IsLine max_depth line (Some r)
      → number_named r.0 rs ≡ Some first → IsRepeatAt number first line r.0 f
      → Adds number line rs [] (f ∷ [])
  no_line : (f : Fault) → IsUnread number line f → Adds number line rs [] (f ∷ [])

-- the rules and the faults of the first lines, so many of them, in their order
pub data HasRead (lines : List (List ℕ)) : ℕ → List Placed → List Fault → Type 0 where
  none_yet : HasRead lines 0 [] []
  one_line : {i : ℕ} {rs more : List Placed} {fs others : List Fault} {line : List ℕ}
      {rest : List (List ℕ)} → drop i lines ≡ line ∷ rest → HasRead lines i rs fs
      → Adds (i + 1) line rs more others → HasRead lines (i + 1) (rs ++ more) (fs ++ others)

-- the first fault of lines, unless memory ran out
abbrev pub IsFaultOf : List (List ℕ) → RulesError → Type 0
IsFaultOf lines NoMemory = Unit {0}
IsFaultOf lines (Unreadable f) =
    (i : ℕ) × (rs : List Placed) × (fs : List Fault) × HasRead lines i rs (f ∷ fs)

-- neither memory nor the depth was too little
abbrev pub IsSyntaxError : RulesError → Type 0
IsSyntaxError NoMemory = ⊥
IsSyntaxError (Unreadable f) = f.reason ≢ TooDeep

abbrev pub most_faults : ℕ
most_faults = 21

-- the faults of all lines, or the first ones, so many that no more are told
abbrev pub HasFaults : List (List ℕ) → List Fault → Type 0
HasFaults lines fs = (i : ℕ) × (rs : List Placed) × HasRead lines i rs fs
    × (length fs < most_faults → length lines ≤ i) × (length fs ≤ most_faults)
