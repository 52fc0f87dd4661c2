-- Why no checks are made of a text, and what is told of its lines.
use Rattle.std.proofs.Common.{◌≡◌, ◌≢◌, inl, inr, ◌⊎◌, ℕ, zero, suc, ◌+◌, ◌-◌, ◌<◌, ◌≤◌, ◌==◌, nat_eq, Bool, true, false, ◌&&◌, List, [], ◌∷◌, ◌++◌, map, length, take, drop, reverse, Option, Some, None, Result, Ok, Err, true≢false, refl, sym, ap, subst, ◌∙◌, arith, append_assoc, append-nil, length-append, get_or, Bor}
use Rattle.std.specs.Prelude.{Any, option_to_list, slice_get, string_bytes, IfOk}
use Rattle.std.specs.declared.alloc.AllocError.{AllocError}
use Rattle.std.specs.List.{slice_split, onto_first, starts_with}
use Rattle.std.specs.Str.{chars}
use Rattle.std.proofs.lemmas.List.{reverse-append, reverse-reverse, length-map}
use Rattle.std.proofs.lemmas.Slice.Eq.{bytes_eq-Decides}
use Rattle.vet_rules.specs.declared.fault.Fault.{Fault}
use Rattle.vet_rules.specs.declared.rule.Rule.{Rule}
use Rattle.vet_rules.specs.Trees.{Tree}
use Rattle.vet_rules.specs.Grammar.{max_depth}
use Rattle.vet_rules.specs.Lexemes.{is_shown}
use Rattle.vet_rules.specs.Rules.{IsLine, blank, rule, bare, quoted, AreRulesOf, AreRules, no_more, skipped, taken, AreApart, mark, without_mark, lines_of, rule_of}
use Rattle.vet_rules.specs.Faults.{Placed, Adds, nothing, a_rule, a_repeat, no_line, HasRead, none_yet, one_line, HasFaults, most_faults}
use Rattle.vet_checks.specs.declared.check_error.CheckError.{CheckError}
use Rattle.vet_checks.specs.declared.check_error.CheckError.TheVariants.{NoMemory, Pattern}
use Rattle.vet_checks.specs.Refusals.{IsFailure, IsPatternIn}
use Rattle.vet_run.specs.declared.rule_fault.RuleFault.{RuleFault}
use Rattle.vet_run.specs.declared.rule_fault.RuleFault.TheVariants as rule_faults
use Rattle.vet_run.specs.declared.rules_file.ReadChecksError.{ReadChecksError}
use Rattle.vet_run.specs.declared.rules_file.ReadChecksError.TheVariants as unread
use Rattle.vet_run.specs.RulesFile.{HasNoCheck, SaysNoChecks, IsRefusalOf, IsRejected, IsToldOfRule, no_rule, a_rule as told_rule, HasTold, none_yet as none_told, one_line as line_told, most_told, AreTold, all_told, more_told, IsOneLine, IsToldOn, IsToldAt}

-- ---- patterns

abbrev pub A_rule : Type 0
A_rule = List ℕ × Tree

any_later : (P : A_rule → Type 0) (z : A_rule) (zs : List A_rule) → Any P zs → Any P (z ∷ zs)
any_later P z zs (k, x, lt, is, h) = (suc k, x, omega (arith, lt), is, h)

any_here : (P : A_rule → Type 0) (f : Rule → A_rule) (before : List Rule) (x : Rule) (rest : List Rule) → P (f x) → Any P (map f (before ++ x ∷ rest))
any_here P f [] x rest h = (0, f x, omega arith, refl, h)
any_here P f (y ∷ before) x rest h = any_later P (f y) (map f (before ++ x ∷ rest)) (any_here P f before x rest h)

abbrev pub InAny : List Rule → List ℕ → Type 0
InAny rules s = Any (λ r. IsPatternIn s r.1) (map rule_of rules)

pub failure_in : (all before : List Rule) (x : Rule) (rest : List Rule) (e : CheckError) → all ≡ before ++ x ∷ rest → IsFailure (λ s. IsPatternIn s (rule_of x).1) e → IsFailure (InAny all) e
failure_in all before x rest NoMemory is h = tt
failure_in all before x rest (Pattern fault) is h =
    let s = string_bytes fault.pattern in
    (subst (λ z. InAny z s) (sym is) (any_here (λ r. IsPatternIn s r.1) rule_of before x rest h.0), h.1)

-- of rules that a text says, one has a pattern that is refused
pub no_checks : (text : List ℕ) (rules : List Rule) (e : CheckError) → ((rs : List A_rule) → AreRulesOf max_depth text rs → map rule_of rules ≡ rs) → (fault : _) → e ≡ Pattern fault → IsFailure (InAny rules) e → SaysNoChecks text
no_checks text rules e only fault is h = λ rs d.
    let p : IsFailure (InAny rules) (Pattern fault) = subst (IsFailure (InAny rules)) is h in
    let any = p.0 in
    subst (Any HasNoCheck) (only rs d) (any.0, any.1, any.2, any.3, (fault, any.4, p.1))

pub rejected : (text : List ℕ) (e : ReadChecksError) → SaysNoChecks text → IsRefusalOf text e → IsRejected text e
rejected text unread.NoMemory none h = tt
rejected text (unread.Unreadable told) none h = (none, h)

-- ---- lines

abbrev pub feeds : ℕ → Bool
feeds b = b == 10

abbrev AreSingle : List (List ℕ) → Type 0
AreSingle [] = Unit {0}
AreSingle (l ∷ ls) = IsOneLine l × AreSingle ls

onto_single : (b : ℕ) (parts : List (List ℕ)) → feeds b ≡ false → AreSingle parts → AreSingle (onto_first b parts)
onto_single b [] is h = (rw is refl, tt)
onto_single b (l ∷ ls) is h = (rw is (ap (onto_first b) h.0), h.1)

one_more_single : (b : ℕ) (bytes : List ℕ) (c : Bool) → feeds b ≡ c → AreSingle (slice_split feeds bytes) → AreSingle (slice_split feeds (b ∷ bytes))
one_more_single b bytes true is h = rw is (refl, h)
one_more_single b bytes false is h = rw is (onto_single b (slice_split feeds bytes) is h)

parts_single : (bytes : List ℕ) → AreSingle (slice_split feeds bytes)
parts_single [] = (refl, tt)
parts_single (b ∷ bytes) = one_more_single b bytes (feeds b) refl (parts_single bytes)

single_at : (i : ℕ) (lines : List (List ℕ)) (line : List ℕ) (rest : List (List ℕ)) → AreSingle lines → drop i lines ≡ line ∷ rest → IsOneLine line
single_at zero [] line rest h e = absurd cc
single_at (suc i) [] line rest h e = absurd cc
single_at zero (l ∷ lines) line rest h e = let is : l ≡ line = cc in subst IsOneLine is h.0
single_at (suc i) (l ∷ lines) line rest h e = single_at i lines line rest h.1 e

-- a line of a text has no line feed
pub line_single : (text : List ℕ) (i : ℕ) (line : List ℕ) (rest : List (List ℕ)) → drop i (lines_of text) ≡ line ∷ rest → IsOneLine line
line_single text i line rest e = single_at i (lines_of text) line rest (parts_single (without_mark text)) e

-- ---- a byte order mark at the front of a line

no_and : (b : Bool) → (b && false) ≡ true → ⊥
no_and true e = cc
no_and false e = cc

mark_hidden : (name : List ℕ) → is_shown (239 ∷ 187 ∷ 191 ∷ name) ≡ true → ⊥
unfolding is_shown chars
mark_hidden [] e = no_and _ e
mark_hidden (b ∷ name) e = no_and _ e

abbrev marked : List ℕ → List ℕ
marked rest = 239 ∷ 187 ∷ 191 ∷ rest

heads : (a b : ℕ) (xs ys : List ℕ) → a ∷ xs ≡ b ∷ ys → a ≡ b
heads a b xs ys e = cc

tails : (a b : ℕ) (xs ys : List ℕ) → a ∷ xs ≡ b ∷ ys → xs ≡ ys
tails a b xs ys e = cc

no_name : (rest name text : List ℕ) → marked rest ≡ name ++ 58 ∷ text → is_shown name ≡ true → ⊥
no_name rest [] text e s = let h = heads 239 58 (187 ∷ 191 ∷ rest) text e in omega (arith, h)
no_name rest (a ∷ []) text e s =
    let t = tails 239 a (187 ∷ 191 ∷ rest) (58 ∷ text) e in
    let h = heads 187 58 (191 ∷ rest) text t in
    omega (arith, h)
no_name rest (a ∷ b ∷ []) text e s =
    let t = tails 239 a (187 ∷ 191 ∷ rest) (b ∷ 58 ∷ text) e in
    let u = tails 187 b (191 ∷ rest) (58 ∷ text) t in
    let h = heads 191 58 rest text u in
    omega (arith, h)
no_name rest (a ∷ b ∷ c ∷ name) text e s =
    let t = tails 239 a (187 ∷ 191 ∷ rest) (b ∷ c ∷ (name ++ 58 ∷ text)) e in
    let u = tails 187 b (191 ∷ rest) (c ∷ (name ++ 58 ∷ text)) t in
    let first = heads 239 a (187 ∷ 191 ∷ rest) (b ∷ c ∷ (name ++ 58 ∷ text)) e in
    let second = heads 187 b (191 ∷ rest) (c ∷ (name ++ 58 ∷ text)) t in
    let third = heads 191 c rest (name ++ 58 ∷ text) u in
    let is : a ∷ b ∷ c ∷ name ≡ marked name = rw (← first, ← second, ← third) refl in
    mark_hidden name (subst (λ w. is_shown w ≡ true) is s)

no_line_marked : (rest : List ℕ) {n : ℕ} {o : Option A_rule} → IsLine n (marked rest) o → ⊥
no_line_marked rest (blank over) = true≢false (sym over)
no_line_marked rest (rule (bare {name = name} {text = text} some names shown e) says) = no_name rest name text e shown
no_line_marked rest (rule (quoted is word named title) says) = true≢false (sym is)

long : (bytes : List ℕ) → mark ≡ take 3 bytes → (rest : List ℕ) × (bytes ≡ marked rest)
long [] h = absurd cc
long (a ∷ []) h = absurd cc
long (a ∷ b ∷ []) h = absurd cc
long (a ∷ b ∷ c ∷ rest) h = (rest, cc)

has_mark : (line : List ℕ) → starts_with nat_eq line mark ≡ true → (rest : List ℕ) × (line ≡ marked rest)
has_mark line e = long line ((bytes_eq-Decides mark (take 3 line)).0 e)

-- what says a rule, or nothing, has no mark
no_mark : (line : List ℕ) {n : ℕ} {o : Option A_rule} → IsLine n line o → without_mark line ≡ line
no_mark line {n = n} {o = o} l = by_condition (starts_with nat_eq line mark) refl
  where
    by_condition : (b : Bool) → starts_with nat_eq line mark ≡ b → without_mark line ≡ line
    by_condition true is = let m = has_mark line is in absurd (no_line_marked m.0 (subst (λ w. IsLine n w o) m.1 l))
    by_condition false is = rw is refl

alone : {n : ℕ} {line : List ℕ} (o : Option A_rule) → IsLine n line o → AreRules n (line ∷ []) (option_to_list o) × AreApart (option_to_list o)
alone None l = (skipped l no_more, tt)
alone (Some r) l = (taken l no_more, (tt, tt))

-- the rules of a text of one line are that line's
pub rules_alone : (line : List ℕ) (o : Option A_rule) → IsOneLine line → IsLine max_depth line o → AreRulesOf max_depth line (option_to_list o)
rules_alone line o single l =
    let lines : lines_of line ≡ line ∷ [] = ap (slice_split feeds) (no_mark line l) ∙ single in
    let p = alone o l in
    (subst (λ ls. AreRules max_depth ls (option_to_list o)) (sym lines) p.0, p.1)

last_is : (front : List Rule) (x : Rule) (o : Option A_rule) → map rule_of (front ++ x ∷ []) ≡ option_to_list o → o ≡ Some (rule_of x)
last_is [] x None e = absurd cc
last_is [] x (Some r) e = cc
last_is (y ∷ []) x None e = absurd cc
last_is (y ∷ []) x (Some r) e = absurd cc
last_is (y ∷ z ∷ front) x None e = absurd cc
last_is (y ∷ z ∷ front) x (Some r) e = absurd cc

none_is : (o : Option A_rule) → [] ≡ option_to_list o → o ≡ None
none_is None e = refl
none_is (Some r) e = absurd cc

told_of_last : (number : ℕ) (line : List ℕ) (rules front : List Rule) (x : Rule) (told : Option RuleFault) → ((rs : List A_rule) → AreRulesOf max_depth line rs → map rule_of rules ≡ rs) → rules ≡ front ++ x ∷ [] → IsToldOfRule number (rule_of x) told → IsToldOn number line told
told_of_last number line rules front x told only is h = λ o single l.
    let e : o ≡ Some (rule_of x) = last_is front x o (ap (map rule_of) (sym is) ∙ only (option_to_list o) (rules_alone line o single l)) in
    rw e h

pub told_of_one : (number : ℕ) (line : List ℕ) (rules front : List Rule) (x : Rule) (r : Result (Option RuleFault) AllocError) → ((rs : List A_rule) → AreRulesOf max_depth line rs → map rule_of rules ≡ rs) → rules ≡ front ++ x ∷ []
    → IfOk r (IsToldOfRule number (rule_of x)) → IfOk r (IsToldOn number line)
told_of_one number line rules front x (Ok told) only is h = told_of_last number line rules front x told only is h
told_of_one number line rules front x (Err e) only is h = tt

pub told_of_none : (number : ℕ) (line : List ℕ) (rules : List Rule) → ((rs : List A_rule) → AreRulesOf max_depth line rs → map rule_of rules ≡ rs) → length rules ≡ 0 → IsToldOn number line None
told_of_none number line [] only is = λ o single l.
    let e : o ≡ None = none_is o (only (option_to_list o) (rules_alone line o single l)) in
    rw e refl
told_of_none number line (x ∷ rules) only is = absurd cc

pub told_of_no_rules : (number : ℕ) (line : List ℕ) (told : Option RuleFault) → ((rs : List A_rule) → AreRulesOf max_depth line rs → ⊥) → IsToldOn number line told
told_of_no_rules number line told never = λ o single l. absurd (never (option_to_list o) (rules_alone line o single l))

-- ---- the faults of the lines that are left

-- what `read_faults` has read of lines from one on: of so many faults it has read all lines, if
-- there are no more
pub data Left (lines : List (List ℕ)) : ℕ → ℕ → List Placed → List Fault → Type 0 where
  ended : {m i : ℕ} {rs : List Placed} → (0 < m → length lines ≤ i) → Left lines m i rs []
  goes : {m i : ℕ} {rs more : List Placed} {fs others : List Fault} {line : List ℕ} {rest : List (List ℕ)} → drop i lines ≡ line ∷ rest
      → Adds (i + 1) line rs more fs → Left lines (m - length fs) (i + 1) (rs ++ more) others → Left lines m i rs (fs ++ others)

less_twice : (a b c d : ℕ) → d ≡ b + c → a - d ≡ a - b - c
less_twice a b c d e = omega (arith, e)

from_start : {lines : List (List ℕ)} {i : ℕ} {rs : List Placed} {fs : List Fault} (gs : List Fault) → HasRead lines i rs fs → Left lines (most_faults - length fs) i rs gs → Left lines most_faults 0 [] (fs ++ gs)
from_start gs none_yet h = h
from_start {lines = lines} gs (one_line {i = i} {rs = rs} {more = more} {fs = fs} {others = others} at before added) h =
    let less = less_twice most_faults (length fs) (length others) (length (fs ++ others)) (length-append fs others) in
    subst (λ z. Left lines most_faults 0 [] z) (sym (append_assoc fs others gs))
    (from_start (others ++ gs) before (goes at added (subst (λ m. Left lines m (i + 1) (rs ++ more) gs) less h)))

left_at_start : (lines : List (List ℕ)) (fs : List Fault) → HasFaults lines fs → Left lines most_faults 0 [] fs
left_at_start lines fs (i, rs, read, short, small) =
    subst (λ z. Left lines most_faults 0 [] z) (append-nil fs) (from_start [] read (ended (λ some. short (omega (arith, some)))))

line_of : {number : ℕ} {line : List ℕ} {rs more : List Placed} {fs : List Fault} (f : Fault) → Adds number line rs more fs → fs ≡ f ∷ [] → f.line ≡ number
line_of f (nothing l) e = absurd cc
line_of f (a_rule r l new) e = absurd cc
line_of f (a_repeat r first g l old h) e = let is : g ≡ f = cc in ap (λ (z : Fault). z.line) (sym is) ∙ h.0
line_of f (no_line g (never, syntax, (s, fault, at))) e = let is : g ≡ f = cc in ap (λ (z : Fault). z.line) (sym is) ∙ at.0

few : {number : ℕ} {line : List ℕ} {rs more : List Placed} {fs : List Fault} → Adds number line rs more fs → (fs ≡ []) ⊎ ((f : Fault) × (fs ≡ f ∷ []))
few (nothing l) = inl refl
few (a_rule r l new) = inl refl
few (a_repeat r first g l old h) = inr (g, refl)
few (no_line g h) = inr (g, refl)

later_on : (i number : ℕ) (line : List ℕ) (rs more : List Placed) (fs others : List Fault) (f : Fault) (hs : List Fault) → number ≡ i + 1 → Adds number line rs more fs
    → (others ≡ f ∷ hs → number < f.line) → fs ++ others ≡ f ∷ hs → (fs ≡ []) ⊎ ((g : Fault) × (fs ≡ g ∷ [])) → i < f.line
later_on i number line rs more fs others f hs is added rest e (inl none) =
    let lt = rest (ap (λ z. z ++ others) (sym none) ∙ e) in
    omega (arith, lt, is)
later_on i number line rs more fs others f hs is added rest e (inr (g, one)) =
    let h : g ∷ others ≡ f ∷ hs = ap (λ z. z ++ others) (sym one) ∙ e in
    let same : g ≡ f = cc in
    let at_line = line_of f added (one ∙ ap (λ z. z ∷ []) same) in
    omega (arith, at_line, is)

-- their lines are behind
later : {lines : List (List ℕ)} {m i : ℕ} {rs : List Placed} {gs : List Fault} → Left lines m i rs gs → (f : Fault) (hs : List Fault) → gs ≡ f ∷ hs → i < f.line
later (ended h) f hs e = absurd cc
later (goes {i = i} {rs = rs} {more = more} {fs = fs} {others = others} {line = line} at added left) f hs e =
    later_on i (i + 1) line rs more fs others f hs refl added (λ is. later left f hs is) e (few added)

-- ---- line by line

-- what is told so far, and what is left
abbrev pub Going : List (List ℕ) → ℕ → List Fault → List RuleFault → Type 0
Going lines i others ts = (m : ℕ) × (rs : List Placed) × (most_faults ≤ m + length ts) × Left lines m i rs (reverse others) × HasTold lines i rs ts

going_at_start : (lines : List (List ℕ)) (fs others : List Fault) → HasFaults lines fs → others ≡ reverse fs → Going lines 0 others []
going_at_start lines fs others h e =
    (most_faults, [], omega arith, subst (Left lines most_faults 0 []) (sym (ap reverse e ∙ reverse-reverse fs)) (left_at_start lines fs h), none_told)

first_of : (before after : List Fault) (f : Fault) → before ≡ after ++ f ∷ [] → reverse before ≡ f ∷ reverse after
first_of before after f e = ap reverse e ∙ reverse-append after (f ∷ [])

last_of : (before others : List Fault) (f : Fault) → reverse before ≡ f ∷ others → before ≡ reverse others ++ f ∷ []
last_of before others f e = sym (reverse-reverse before) ∙ ap reverse e ∙ reverse-append (f ∷ []) others

abbrev Next : List (List ℕ) → ℕ → List Fault → List RuleFault → Option RuleFault → Type 0
Next lines i after ts told = Going lines (i + 1) after (ts ++ option_to_list told)

module _ {lines : List (List ℕ)} {i : ℕ} {line : List ℕ} {rest : List (List ℕ)} (at : drop i lines ≡ line ∷ rest) (before after : List Fault) (ts : List RuleFault) where
  -- a fault of the line was taken
  fault_told : (m : ℕ) {rs more : List Placed} {others : List Fault} (f : Fault) → most_faults ≤ m + length ts → HasTold lines i rs ts
      → Adds (i + 1) line rs more (f ∷ []) → Left lines (m - 1) (i + 1) (rs ++ more) others → reverse after ≡ others → Next lines i after ts (Some (rule_faults.Unreadable f))
  fault_told m {rs = rs} f enough told (a_repeat r first g l old h) left e =
      (m - 1, rs ++ [], omega (arith, enough, length-append ts (rule_faults.Unreadable f ∷ [])), subst (Left lines (m - 1) (i + 1) (rs ++ [])) (sym e) left, line_told at told (no_rule (f ∷ []) (a_repeat r first g l old h)))
  fault_told m {rs = rs} f enough told (no_line g h) left e =
      (m - 1, rs ++ [], omega (arith, enough, length-append ts (rule_faults.Unreadable f ∷ [])), subst (Left lines (m - 1) (i + 1) (rs ++ [])) (sym e) left, line_told at told (no_rule (f ∷ []) (no_line g h)))

  -- no fault of the line was left
  rule_told : (m : ℕ) {rs more : List Placed} {others : List Fault} (told : Option RuleFault) → most_faults ≤ m + length ts → HasTold lines i rs ts
      → Adds (i + 1) line rs more [] → Left lines (m - 0) (i + 1) (rs ++ more) others → reverse after ≡ others → IsOneLine line → IsToldOn (i + 1) line told → Next lines i after ts told
  rule_told m {rs = rs} told enough before_it (nothing l) left e single on =
      let is : told ≡ None = on None single l in
      (m - 0, rs ++ [], omega (arith, enough, length-append ts (option_to_list told)), subst (Left lines (m - 0) (i + 1) (rs ++ [])) (sym e) left, rw is (line_told at before_it (no_rule [] (nothing l))))
  rule_told m {rs = rs} told enough before_it (a_rule r l new) left e single on =
      let more : List Placed = (i + 1, r) ∷ [] in
      (m - 0, rs ++ more, omega (arith, enough, length-append ts (option_to_list told)), subst (Left lines (m - 0) (i + 1) (rs ++ more)) (sym e) left, line_told at before_it (told_rule r told (a_rule r l new) (on (Some r) single l)))

  next_told : (told : Option RuleFault) → i < length lines → length ts ≤ most_told → IsOneLine line → Going lines i before ts → IsToldAt (i + 1) line before after told → Next lines i after ts told
  next_told told within small single (m, rs, enough, left, told_before) is = by_left left refl
    where
      by_added : {more : List Placed} {others : List Fault} (fs : List Fault) → Adds (i + 1) line rs more fs → Left lines (m - length fs) (i + 1) (rs ++ more) others → reverse before ≡ fs ++ others
          → (fs ≡ []) ⊎ ((f : Fault) × (fs ≡ f ∷ [])) → IsToldAt (i + 1) line before after told → Next lines i after ts told
      by_added [] added left all c (inl (f, (is_last, at_line), same)) =
          let e = sym all ∙ first_of before after f is_last in
          let lt = later left f (reverse after) e in
          absurd (omega (arith, lt, at_line))
      by_added [] added left all c (inr ((kept, unlike), on)) = rule_told m told enough told_before added left (ap reverse kept ∙ all) single on
      by_added {others = others} (f ∷ []) added left all c (inl (g, (is_last, at_line), same)) =
          let e : f ∷ others ≡ g ∷ reverse after = sym all ∙ first_of before after g is_last in
          let one : f ≡ g = cc in
          subst (Next lines i after ts) (ap (λ z. Some (rule_faults.Unreadable z)) one ∙ sym same) (fault_told m f enough told_before added left cc)
      by_added {others = others} (f ∷ []) added left all c (inr ((kept, unlike), on)) = absurd (unlike (reverse others) f (last_of before others f all) (line_of f added refl))
      by_added (f ∷ g ∷ fs) added left all (inl e) t = absurd cc
      by_added (f ∷ g ∷ fs) added left all (inr (h, e)) t = absurd cc

      by_left : {gs : List Fault} → Left lines m i rs gs → gs ≡ reverse before → Next lines i after ts told
      by_left (ended h) e = absurd (let end = h (omega (arith, enough, small)) in omega (arith, end, within))
      by_left (goes {more = more} {fs = fs} {others = others} {line = own} {rest = next} here added left) e =
          let same : own ≡ line = cc in
          by_added fs (subst (λ z. Adds (i + 1) z rs more fs) same added) left (sym e) (few added) is

-- ---- the last fault

pub last_split : (fs : List Fault) (k : ℕ) (f : Fault) → k ≡ length fs - 1 → Some f ≡ slice_get fs k → (before : List Fault) × (fs ≡ before ++ f ∷ [])
last_split [] k f is e = absurd cc
last_split (g ∷ []) zero f is e = ([], cc)
last_split (g ∷ []) (suc k) f is e = absurd (omega (arith, is))
last_split (g ∷ h ∷ fs) zero f is e = absurd (omega (arith, is))
last_split (g ∷ h ∷ fs) (suc k) f is e = let s = last_split (h ∷ fs) k f (omega (arith, is)) e in (g ∷ s.0, ap (λ z. g ∷ z) s.1)

pub same_last : (before others : List Fault) (f g : Fault) → before ++ f ∷ [] ≡ others ++ g ∷ [] → f ≡ g
same_last [] [] f g e = cc
same_last [] (x ∷ []) f g e = absurd cc
same_last [] (x ∷ y ∷ others) f g e = absurd cc
same_last (x ∷ []) [] f g e = absurd cc
same_last (x ∷ y ∷ before) [] f g e = absurd cc
same_last (x ∷ before) (y ∷ others) f g e = same_last before others f g cc

-- ---- a loop over borrowed lines

abbrev pub texts : List (Bor (List ℕ)) → List (List ℕ)
texts lines = map (λ (x : Bor (List ℕ)). x.now) lines

line_here : (lines : List (Bor (List ℕ))) (i : ℕ) (d : Bor (List ℕ)) → i < length lines → drop i (texts lines) ≡ (get_or lines i d).now ∷ drop (suc i) (texts lines)
line_here [] i d lt = absurd (omega arith)
line_here (l ∷ lines) zero d lt = refl
line_here (l ∷ lines) (suc i) d lt = line_here lines i d (omega arith)

pub go_on : (text : List ℕ) (lines : List (Bor (List ℕ))) (i : ℕ) (d : Bor (List ℕ)) (before after : List Fault) (ts : List RuleFault) (told : Option RuleFault) → texts lines ≡ lines_of text → i < length lines → length ts ≤ most_told
    → Going (texts lines) i before ts → IsToldAt (i + 1) (get_or lines i d).now before after told → Going (texts lines) (i + 1) after (ts ++ option_to_list told)
go_on text lines i d before after ts told is lt small going at =
    let here = line_here lines i d lt in
    let single = line_single text i (get_or lines i d).now (drop (suc i) (texts lines)) (ap (drop i) (sym is) ∙ here) in
    let long = length-map lines (λ (x : Bor (List ℕ)). x.now) in
    next_told here before after ts told (omega (arith, long, lt)) small single going at

pub one_told : (lines : List (List ℕ)) (i : ℕ) (others : List Fault) (ts all : List RuleFault) (told : Option RuleFault) (t : RuleFault) → told ≡ Some t → all ≡ ts ++ t ∷ [] → length ts ≤ most_told → length ts ≢ most_told
    → Going lines i others (ts ++ option_to_list told) → Going lines i others all × (length all ≤ most_told)
one_told lines i others ts all told t is e small other going =
    let one : ts ++ option_to_list told ≡ all = ap (λ z. ts ++ option_to_list z) is ∙ sym e in
    let long : length all ≡ length ts + 1 = ap length e ∙ length-append ts (t ∷ []) in
    (subst (Going lines i others) one going, omega (arith, long, small, other))

pub none_told_there : (lines : List (List ℕ)) (i : ℕ) (others : List Fault) (ts all : List RuleFault) (told : Option RuleFault) → told ≡ None → all ≡ ts → length ts ≤ most_told
    → Going lines i others (ts ++ option_to_list told) → Going lines i others all × (length all ≤ most_told)
none_told_there lines i others ts all told is e small going =
    let one : ts ++ option_to_list told ≡ all = ap (λ z. ts ++ option_to_list z) is ∙ append-nil ts ∙ sym e in
    (subst (Going lines i others) one going, rw e small)

pub cut_off : (text : List ℕ) (lines : List (Bor (List ℕ))) (i : ℕ) (others : List Fault) (ts all : List RuleFault) (told : Option RuleFault) (t : RuleFault) → texts lines ≡ lines_of text → told ≡ Some t → all ≡ ts ++ rule_faults.More ∷ [] → length ts ≡ most_told
    → Going (texts lines) i others (ts ++ option_to_list told) → AreTold (lines_of text) all
cut_off text lines i others ts all told t at is e full (m, rs, enough, left, have) =
    let one : ts ++ option_to_list told ≡ ts ++ t ∷ [] = ap (λ z. ts ++ option_to_list z) is in
    rw (← at, e) (more_told ts t (subst (HasTold (texts lines) i rs) one have) full)

pub told_to_end : (text : List ℕ) (lines : List (Bor (List ℕ))) (i : ℕ) (others : List Fault) (ts : List RuleFault) → texts lines ≡ lines_of text → length lines ≤ i → length ts ≤ most_told → Going (texts lines) i others ts → AreTold (lines_of text) ts
told_to_end text lines i others ts at le small (m, rs, enough, left, have) =
    let long = length-map lines (λ (x : Bor (List ℕ)). x.now) in
    rw (← at) (all_told have (omega (arith, long, le)) small)

pub begin : (text : List ℕ) (lines : List (Bor (List ℕ))) (fs others : List Fault) (ts : List RuleFault) → texts lines ≡ lines_of text → HasFaults (lines_of text) fs → others ≡ reverse fs → ts ≡ [] → Going (texts lines) 0 others ts
begin text lines fs others ts at h e none = rw (at, none) (going_at_start (lines_of text) fs others h e)
