-- What is read can be written again, and nests no deeper then.
use Rattle.std.specs.Prelude.{◌&&◌, max}
use Rattle.std.proofs.Common.{◌≡◌, ℕ, suc, ◌≤◌, Bool, true, false, cond, List, [], ◌∷◌, map, Option, Some, refl, arith, IsUtf8}
use Rattle.vet_rules.specs.declared.expression.Connective.{Connective}
use Rattle.vet_rules.specs.declared.expression.Connective.TheVariants.{Or, Xor, And}
use Rattle.vet_rules.specs.declared.expression.HowMany.{HowMany}
use Rattle.vet_rules.specs.declared.parser.Separator.{Separator}
use Rattle.vet_rules.specs.declared.parser.Separator.TheVariants as separators
use Rattle.vet_rules.specs.Literals.{Literal, Text}
use Rattle.vet_rules.specs.Signs.{Sign}
use Rattle.vet_rules.specs.Conditions.{Condition}
use Rattle.vet_rules.specs.Trees.{Tree, Test, Not, Implies, Quantified, Joined, AtLeast}
use Rattle.vet_rules.specs.Trees.{Trees, more}
use Rattle.vet_rules.specs.Grammar.{Level, By, Single, Whole, Premise, tighter, value_in, text_in, Items, last, another, IsList, no_items, items, IsCondition, word, compare, compare_with, has_length, of_kind, relate, among, IsQuantifier, each, any, at_least_items, Spells, test, keys, denied, group, quantified, at_least, alone, joined, no_if, implied, premise, Follow, no_more, and_more}
use Rattle.vet_rules.specs.Rules.{Says}
use Rattle.vet_rules.specs.Printing.{fits, takes_if, has_parts, stands_at, nesting_at, parts_nesting, IsProper, AreProper, IsLiteral, AreLiterals, IsPlainCondition, IsPlainQuantifier, IsPlain, ArePlain, printed}
use Rattle.vet_rules.proofs.Readable.{IsPlainSign, ArePlainSigns, path_plain, value_plain, text_plain, lexed_plain}
use Rattle.vet_rules.proofs.Spaced.{printed_says}

by_fits : (a b : Bool) (k : ℕ) → cond a k (suc k) ≤ suc (cond b k (suc k))
by_fits true true k = omega arith
by_fits true false k = omega arith
by_fits false true k = omega arith
by_fits false false k = omega arith

-- parentheses make one more
in_parentheses : (l : Level) (e : Tree) → nesting_at l e ≤ suc (nesting_at Whole e)
in_parentheses l (Test path t) = omega arith
in_parentheses l (Not e) = omega arith
in_parentheses l (Implies a b) = by_fits (takes_if l) true (suc (max (suc (nesting_at Whole a)) (nesting_at Whole b)))
in_parentheses l (Quantified q path e) = omega arith
in_parentheses l (Joined c es) = by_fits (stands_at l c es) (stands_at Whole c es) (parts_nesting (separators.Connective c) es)
in_parentheses l (AtLeast k es) = omega arith

by_less : (parts a b : Bool) (k : ℕ) → (b ≡ true → a ≡ true) → cond (parts && a) k (suc k) ≤ cond (parts && b) k (suc k)
by_less false a b k h = omega arith
by_less true true true k h = omega arith
by_less true true false k h = omega arith
by_less true false true k h = let e = h refl in absurd cc
by_less true false false k h = omega arith

fits_looser : (c d : Connective) → fits (tighter c) d ≡ true → fits (By c) d ≡ true
fits_looser Or Or h = refl
fits_looser Or Xor h = refl
fits_looser Or And h = refl
fits_looser Xor Or h = absurd cc
fits_looser Xor Xor h = refl
fits_looser Xor And h = refl
fits_looser And Or h = absurd cc
fits_looser And Xor h = absurd cc
fits_looser And And h = refl

-- where less binds, no more parentheses are needed
looser : (c : Connective) (e : Tree) → nesting_at (By c) e ≤ nesting_at (tighter c) e
looser c (Test path t) = omega arith
looser c (Not e) = omega arith
looser Or (Implies a b) = omega arith
looser Xor (Implies a b) = omega arith
looser And (Implies a b) = omega arith
looser c (Quantified q path e) = omega arith
looser c (Joined d es) = by_less (has_parts es) (fits (By c) d) (fits (tighter c) d) (parts_nesting (separators.Connective d) es) (fits_looser c d)
looser c (AtLeast k es) = omega arith

-- where an implication may stand too, no more parentheses are needed
loosest : (e : Tree) → nesting_at Whole e ≤ nesting_at (By Or) e
loosest (Test path t) = omega arith
loosest (Not e) = omega arith
loosest (Implies a b) = omega arith
loosest (Quantified q path e) = omega arith
loosest (Joined c es) = omega arith
loosest (AtLeast k es) = omega arith

by_place : (a : Bool) (k n : ℕ) → k ≤ n → k ≤ cond a n (suc n)
by_place true k n h = h
by_place false k n h = omega (arith, h)

-- what denies the premise nests no deeper than the implication
pub denied_nests : (l m : Level) (a b : Tree) → nesting_at l (Not a) ≤ nesting_at m (Implies a b)
denied_nests l m a b = by_place (takes_if m) (suc (nesting_at Single a)) (suc (max (suc (nesting_at Whole a)) (nesting_at Whole b))) (omega (arith, in_parentheses Single a))

fits_itself : (c : Connective) → fits (By c) c ≡ true
fits_itself Or = refl
fits_itself Xor = refl
fits_itself And = refl

joined_nests : (c : Connective) (k n : ℕ) → k ≤ n → cond (fits (By c) c) k (suc k) ≤ n
joined_nests c k n le = rw (fits_itself c) le

mutual
  pub spells_proper : {n : ℕ} {l : Level} {ts : List Sign} {e : Tree} {rest : List Sign} → Spells n l ts e rest → IsProper e × (nesting_at l e ≤ n)
  spells_proper (test h t) = (tt, omega arith)
  spells_proper (keys h l) = (tt, omega arith)
  spells_proper (denied d) = let p = spells_proper d in (p.0, omega (arith, p.1))
  spells_proper (group {e = e} d) = let p = spells_proper d in (p.0, omega (arith, p.1, in_parentheses Single e))
  spells_proper (quantified h q d) = let p = spells_proper d in (p.0, omega (arith, p.1))
  spells_proper (at_least d g) =
      let p = spells_proper d in
      let q = follow_proper g in
      ((tt, (p.0, q.0)), omega (arith, p.1, q.1))
  spells_proper (alone {c = c} {e = e} d) = let p = spells_proper d in (p.0, omega (arith, p.1, looser c e))
  spells_proper (joined {n = n} {c = c} {e = e} {f = f} {es = es} d g) =
      let p = spells_proper d in
      let q = follow_proper g in
      ((p.0, tt, q.0), joined_nests c (parts_nesting (separators.Connective c) (more e (more f es))) n (omega (arith, p.1, q.1)))
  spells_proper (no_if {e = e} d) = let p = spells_proper d in (p.0, omega (arith, p.1, loosest e))
  spells_proper (implied (premise d) g) =
      let p = spells_proper d in
      let q = spells_proper g in
      ((p.0, q.0), omega (arith, p.1, q.1))
  spells_proper (premise {e = e} d) = let p = spells_proper d in (p.0, omega (arith, p.1, in_parentheses Premise e))

  pub follow_proper : {n : ℕ} {s : Separator} {ts : List Sign} {es : Trees} {rest : List Sign} → Follow n s ts es rest → AreProper es × (parts_nesting s es ≤ n)
  follow_proper no_more = (tt, omega arith)
  follow_proper (and_more d g) =
      let p = spells_proper d in
      let q = follow_proper g in
      ((p.0, q.0), omega (arith, p.1, q.1))

-- ---- what is read can be written

module _ {A : Type 0} (seen : Sign → Option A) (IsPlain : A → Type 0) (each_plain : (t : Sign) (v : A) → seen t ≡ Some v → IsPlainSign t → IsPlain v) where
  abbrev ArePlainItems : List A → Type 0
  ArePlainItems [] = Unit {0}
  ArePlainItems (v ∷ vs) = IsPlain v × ArePlainItems vs

  items_plain : {ts : List Sign} {vs : List A} {rest : List Sign} → Items seen ts vs rest → ArePlainSigns ts → ArePlainItems vs × ArePlainSigns rest
  items_plain (last {t = t} {v = v} h) a = ((each_plain t v h a.0, tt), a.1.1)
  items_plain (another {t = t} {v = v} h i) a = let p = items_plain i a.1.1 in ((each_plain t v h a.0, p.0), p.1)

  list_plain : {ts : List Sign} {vs : List A} {rest : List Sign} → IsList seen ts vs rest → ArePlainSigns ts → ArePlainItems vs × ArePlainSigns rest
  list_plain no_items a = (tt, a.1.1)
  list_plain (items i) a = items_plain i a.1

are_literals : (vs : List Literal) → ArePlainItems value_in IsLiteral value_plain vs → AreLiterals vs
are_literals [] h = tt
are_literals (v ∷ vs) h = (h.0, are_literals vs h.1)

are_texts : (texts : List (List ℕ)) → ArePlainItems text_in IsUtf8 text_plain texts → AreLiterals (map Text texts)
are_texts [] h = tt
are_texts (text ∷ texts) h = (h.0, are_texts texts h.1)

condition_plain : {ts : List Sign} {t : Condition} {rest : List Sign} → IsCondition ts t rest → ArePlainSigns ts → IsPlainCondition t × ArePlainSigns rest
condition_plain word a = (tt, a.1)
condition_plain (compare {t = t} {v = v} h) a = (value_plain t v h a.1.0, a.1.1)
condition_plain compare_with a = (a.1.0, a.1.1)
condition_plain has_length a = (a.1.1.0, a.1.1.1)
condition_plain of_kind a = (tt, a.1.1)
condition_plain (relate {t = t} {text = text} h) a = (text_plain t text h a.1.0, a.1.1)
condition_plain (among {vs = vs} l) a = let p = list_plain value_in IsLiteral value_plain l a.1 in (are_literals vs p.0, p.1)

quantifier_plain : {ts : List Sign} {q : HowMany} {rest : List Sign} → IsQuantifier ts q rest → ArePlainSigns ts → IsPlainQuantifier q × ArePlainSigns rest
quantifier_plain each a = (tt, a.1)
quantifier_plain any a = (tt, a.1)
quantifier_plain at_least_items a = (a.1.1.0, a.1.1.1)

mutual
  spells_plain : {n : ℕ} {l : Level} {ts : List Sign} {e : Tree} {rest : List Sign} → Spells n l ts e rest → ArePlainSigns ts → IsPlain e × ArePlainSigns rest
  spells_plain (test {p = p} {path = path} h t) a = let q = condition_plain t a.1 in ((path_plain p path h a.0, q.0), q.1)
  spells_plain (keys {p = p} {path = path} {texts = texts} h l) a =
      let q = list_plain text_in IsUtf8 text_plain l a.1.1.1 in
      ((path_plain p path h a.1.0, are_texts texts q.0), q.1)
  spells_plain (denied d) a = spells_plain d a.1
  spells_plain (group d) a = let p = spells_plain d a.1 in (p.0, p.1.1)
  spells_plain (quantified {p = p} {path = path} h q d) a =
      let c = quantifier_plain q a in
      let b = spells_plain d c.1.1.1 in
      ((path_plain p path h c.1.0, b.0, c.0), b.1.1)
  spells_plain (at_least d g) a =
      let p = spells_plain d a.1.1.1.1.1 in
      let q = follow_plain g p.1 in
      ((a.1.1.0, (p.0, q.0)), q.1.1)
  spells_plain (alone d) a = spells_plain d a
  spells_plain (joined d g) a =
      let p = spells_plain d a in
      let q = follow_plain g p.1 in
      ((p.0, q.0), q.1)
  spells_plain (no_if d) a = spells_plain d a
  spells_plain (implied d g) a =
      let p = spells_plain d a.1 in
      let q = spells_plain g p.1.1 in
      ((p.0, q.0), q.1)
  spells_plain (premise d) a = spells_plain d a

  follow_plain : {n : ℕ} {s : Separator} {ts : List Sign} {es : Trees} {rest : List Sign} → Follow n s ts es rest → ArePlainSigns ts → ArePlain es × ArePlainSigns rest
  follow_plain no_more a = (tt, a)
  follow_plain (and_more d g) a =
      let p = spells_plain d a.1 in
      let q = follow_plain g p.1 in
      ((p.0, q.0), q.1)

pub said_again : (n : ℕ) (text : List ℕ) (e : Tree) → Says n text e → Says n (printed e) e
said_again n text e (ts, c, s) = let p = spells_proper s in printed_says n e p.0 (spells_plain s (lexed_plain c)).0 p.1
