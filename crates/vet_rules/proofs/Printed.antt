-- What is printed is spelled so.
use Rattle.std.specs.Prelude.{◌&&◌, max}
use Rattle.std.proofs.Common.{◌≡◌, true≢false, ℕ, zero, suc, ◌≤◌, Bool, true, false, cond, List, [], ◌∷◌, ◌++◌, map, Option, Some, inl, inr, refl, sym, ap, subst, ◌∙◌, append_assoc, arith}
use Rattle.vet_rules.specs.declared.expression.Connective.{Connective}
use Rattle.vet_rules.specs.declared.expression.Connective.TheVariants.{Or, Xor, And}
use Rattle.vet_rules.specs.declared.expression.HowMany.{HowMany}
use Rattle.vet_rules.specs.declared.expression.HowMany.TheVariants as quantifiers
use Rattle.vet_rules.specs.declared.fixed.Fixed.TheVariants as fixed
use Rattle.vet_rules.specs.declared.parser.Separator.{Separator}
use Rattle.vet_rules.specs.declared.parser.Separator.TheVariants as separators
use Rattle.vet_rules.specs.Literals.{Literal, Natural, Boolean, Null}
use Rattle.vet_rules.specs.Signs as signs
use Rattle.vet_rules.specs.Signs.{Sign}
use Rattle.vet_rules.specs.Conditions.{Condition, Is, Compare, CompareWith, Length, IsOf}
use Rattle.vet_rules.specs.Conditions.{Relate, In, KeysIn}
use Rattle.vet_rules.specs.Trees.{Tree, Test, Not, Implies, Quantified, Joined, AtLeast}
use Rattle.vet_rules.specs.Trees.{Trees, none, more}
use Rattle.vet_rules.specs.Grammar.{Level, By, Single, Whole, Premise, tighter, separator_word, part_level, path_in, value_in, text_in, Items, last, another, IsList, no_items, items, word, compare, compare_with, has_length, of_kind, relate, among, IsQuantifier, each, any, at_least_items, Spells, test, keys, denied, group, quantified, at_least, alone, joined, no_if, implied, premise, Follow, no_more, and_more, IsSpelled}
use Rattle.vet_rules.specs.Printing.{is_bare, path_sign, literal_sign, text_sign, following, row_signs, subject_signs, condition_signs, quantifier_signs, in_parentheses, fits, takes_if, has_parts, stands_at, signs_at, part_signs, follow_signs, nesting_at, parts_nesting, IsSome, IsProper, AreMany, AreProper, IsPath, IsPlain, ArePlain}
use Rattle.vet_rules.proofs.Bare.{nothing_is_bare, caret_is_bare}

module _ {A : Type 0} (seen : Sign → Option A) (sign : A → Sign) (back : (v : A) → seen (sign v) ≡ Some v) where
  items_spelled : (v : A) (vs : List A) (rest : List Sign) → Items seen (sign v ∷ (following (map sign vs) ++ signs.Word fixed.CloseList ∷ rest)) (v ∷ vs) rest
  items_spelled v [] rest = last (back v)
  items_spelled v (w ∷ vs) rest = another (back v) (items_spelled w vs rest)

  list_spelled : (vs : List A) (rest : List Sign) → IsList seen (signs.Word fixed.OpenList ∷ ((row_signs (map sign vs) ++ signs.Word fixed.CloseList ∷ []) ++ rest)) vs rest
  list_spelled [] rest = no_items
  list_spelled (v ∷ vs) rest = items (subst (λ (us : List Sign). Items seen (sign v ∷ us) (v ∷ vs) rest) (sym (append_assoc (following (map sign vs)) (signs.Word fixed.CloseList ∷ []) rest)) (items_spelled v vs rest))

value_back : (v : Literal) → value_in (literal_sign v) ≡ Some v
value_back (Boolean b) = refl
value_back Null = refl
value_back v = refl

text_back : (text : List ℕ) → text_in (text_sign text) ≡ Some text
text_back text = refl

-- a path in quotes is that path
pointer_back : (path : List ℕ) → IsPath path → is_bare path ≡ false → path_in (text_sign path) ≡ Some path
pointer_back [] h b = absurd (true≢false (sym nothing_is_bare ∙ b))
pointer_back (x ∷ []) h b = absurd (true≢false (sym (subst (λ (y : ℕ). is_bare (y ∷ []) ≡ true) (sym h) caret_is_bare) ∙ b))
pointer_back (x ∷ y ∷ []) (h, u) b = rw h refl
pointer_back (x ∷ y ∷ z ∷ bytes) (inl h, u) b = rw h refl
pointer_back (x ∷ y ∷ z ∷ bytes) (inr (h, k), u) b = rw (h, k) refl

path_back : (path : List ℕ) → IsPath path → path_in (path_sign path) ≡ Some path
path_back path h = by_condition (is_bare path) refl
  where
    by_condition : (b : Bool) → is_bare path ≡ b → path_in (cond b (signs.Path path) (text_sign path)) ≡ Some path
    by_condition true e = refl
    by_condition false e = pointer_back path h e

condition_spelled : (path : List ℕ) (t : Condition) {n : ℕ} (rest : List Sign) → IsPath path → Spells n Single ((subject_signs path t ++ condition_signs t) ++ rest) (Test path t) rest
condition_spelled path (Is s) rest h = test (path_back path h) word
condition_spelled path (Compare o v) rest h = test (path_back path h) (compare (value_back v))
condition_spelled path (CompareWith o other) rest h = test (path_back path h) compare_with
condition_spelled path (Length o n) rest h = test (path_back path h) has_length
condition_spelled path (IsOf k) rest h = test (path_back path h) of_kind
condition_spelled path (Relate r text) rest h = test (path_back path h) (relate refl)
condition_spelled path (In vs) rest h = test (path_back path h) (among (list_spelled value_in literal_sign value_back vs rest))
condition_spelled path (KeysIn texts) rest h = keys (path_back path h) (list_spelled text_in text_sign text_back texts rest)

quantifier_spelled : (q : HowMany) (rest : List Sign) → IsQuantifier (quantifier_signs q ++ rest) q rest
quantifier_spelled quantifiers.Each rest = each
quantifier_spelled quantifiers.Any rest = any
quantifier_spelled (quantifiers.AtLeast k) rest = at_least_items

-- where something may be printed
abbrev is_place : Level → Bool
is_place Premise = false
is_place l = true

part_is_place : (s : Separator) → is_place (part_level s) ≡ true
part_is_place (separators.Connective Or) = refl
part_is_place (separators.Connective Xor) = refl
part_is_place (separators.Connective And) = refl
part_is_place separators.Comma = refl

-- what is single may stand at each level
single_at : (l : Level) {n : ℕ} {ts : List Sign} {e : Tree} {rest : List Sign} → is_place l ≡ true → Spells n Single ts e rest → Spells n l ts e rest
single_at Single h d = d
single_at (By And) h d = alone d
single_at (By Xor) h d = alone (alone d)
single_at (By Or) h d = alone (alone (alone d))
single_at Whole h d = no_if (alone (alone (alone d)))
single_at Premise h d = absurd cc

joined_at : (l : Level) (c : Connective) {n : ℕ} {ts : List Sign} {e : Tree} {rest : List Sign} → fits l c ≡ true → Spells n (By c) ts e rest → Spells n l ts e rest
joined_at (By Or) Or h d = d
joined_at (By Or) Xor h d = alone d
joined_at (By Or) And h d = alone (alone d)
joined_at (By Xor) Xor h d = d
joined_at (By Xor) And h d = alone d
joined_at (By And) And h d = d
joined_at Whole Or h d = no_if d
joined_at Whole Xor h d = no_if (alone d)
joined_at Whole And h d = no_if (alone (alone d))
joined_at l c h d = absurd cc

implied_at : (l : Level) {n : ℕ} {ts : List Sign} {e : Tree} {rest : List Sign} → takes_if l ≡ true → Spells n Whole ts e rest → Spells n l ts e rest
implied_at Whole h d = d
implied_at l h d = absurd cc

closed : (ts rest : List Sign) → in_parentheses ts ++ rest ≡ signs.Word fixed.Open ∷ (ts ++ signs.Word fixed.Close ∷ rest)
closed ts rest = ap (λ (us : List Sign). signs.Word fixed.Open ∷ us) (append_assoc ts (signs.Word fixed.Close ∷ []) rest)

second_true : (a b : Bool) → (a && b) ≡ true → b ≡ true
second_true true b h = h
second_true false b h = absurd cc

-- at its own level, or in parentheses
placed : (b : Bool) (k l : Level) (n depth : ℕ) (e : Tree) (ts rest : List Sign) → is_place l ≡ true → ((m : ℕ) (us vs : List Sign) → b ≡ true → Spells m k us e vs → Spells m l us e vs) → ((m : ℕ) (us vs : List Sign) → Spells m k us e vs → Spells m Whole us e vs)
    → cond b depth (suc depth) ≤ n → ((m : ℕ) (us : List Sign) → depth ≤ m → Spells m k (ts ++ us) e us) → Spells n l (cond b ts (in_parentheses ts) ++ rest) e rest
placed true k l n depth e ts rest place fit loose le d = fit n (ts ++ rest) rest refl (d n rest le)
placed false k l zero depth e ts rest place fit loose le d = absurd (omega arith)
placed false k l (suc n) depth e ts rest place fit loose le d =
    subst (λ (us : List Sign). Spells (suc n) l us e rest) (sym (closed ts rest)) (single_at l place (group (loose n (ts ++ signs.Word fixed.Close ∷ rest) (signs.Word fixed.Close ∷ rest) (d n (signs.Word fixed.Close ∷ rest) (omega arith)))))

two_joined : (es : Trees) {n : ℕ} {c : Connective} {e : Tree} {ts us rest : List Sign} → IsSome es → Spells n (tighter c) ts e us → Follow n (separators.Connective c) us es rest → Spells n (By c) ts (Joined c (more e es)) rest
two_joined none some d f = absurd some
two_joined (more g es) some d f = joined d f

-- as it is printed, at each depth that is enough
abbrev IsSpelledWhole : Tree → Type 0
IsSpelledWhole e = (n : ℕ) (rest : List Sign) → nesting_at Whole e ≤ n → Spells n Whole (signs_at Whole e ++ rest) e rest

implied_spelled : (a b : Tree) (n : ℕ) (rest : List Sign) → IsSpelledWhole a → IsSpelledWhole b → suc (max (suc (nesting_at Whole a)) (nesting_at Whole b)) ≤ n → Spells n Whole ((signs.Word fixed.If ∷ (signs_at Whole a ++ signs.Word fixed.Then ∷ signs_at Whole b)) ++ rest) (Implies a b) rest
implied_spelled a b zero rest p q le = absurd (omega arith)
implied_spelled a b (suc zero) rest p q le = absurd (omega arith)
implied_spelled a b (suc (suc n)) rest p q le =
    subst (λ (us : List Sign). Spells (suc (suc n)) Whole (signs.Word fixed.If ∷ us) (Implies a b) rest) (sym (append_assoc (signs_at Whole a) (signs.Word fixed.Then ∷ signs_at Whole b) rest))
    (implied (premise (p n (signs.Word fixed.Then ∷ (signs_at Whole b ++ rest)) (omega arith))) (q (suc n) rest (omega arith)))

mutual
  pub spelled_at : (e : Tree) (l : Level) (n : ℕ) (rest : List Sign) → is_place l ≡ true → IsProper e → IsPlain e → nesting_at l e ≤ n → Spells n l (signs_at l e ++ rest) e rest
  spelled_at (Test path t) l n rest h p q le = single_at l h (condition_spelled path t rest q.0)
  spelled_at (Not e) l zero rest h p q le = absurd (omega arith)
  spelled_at (Not e) l (suc n) rest h p q le = single_at l h (denied (spelled_at e Single n rest refl p q (omega arith)))
  spelled_at (Implies a b) l n rest h p q le =
      placed (takes_if l) Whole l n (suc (max (suc (nesting_at Whole a)) (nesting_at Whole b))) (Implies a b) (signs.Word fixed.If ∷ (signs_at Whole a ++ signs.Word fixed.Then ∷ signs_at Whole b)) rest h (λ m us vs t d. implied_at l t d) (λ m us vs d. d) le (λ m us k. implied_spelled a b m us (λ n vs r. spelled_at a Whole n vs refl p.0 q.0 r) (λ n vs r. spelled_at b Whole n vs refl p.1 q.1 r) k)
  spelled_at (Quantified quantifier path e) l zero rest h p q le = absurd (omega arith)
  spelled_at (Quantified quantifier path e) l (suc n) rest h p q le =
      let front = append_assoc (quantifier_signs quantifier) (path_sign path ∷ in_parentheses (signs_at Whole e)) rest ∙ ap (λ (us : List Sign). quantifier_signs quantifier ++ path_sign path ∷ us) (closed (signs_at Whole e) rest) in
      subst (λ (us : List Sign). Spells (suc n) l us (Quantified quantifier path e) rest) (sym front)
      (single_at l h (quantified (path_back path q.0) (quantifier_spelled quantifier (path_sign path ∷ signs.Word fixed.Open ∷ (signs_at Whole e ++ signs.Word fixed.Close ∷ rest))) (spelled_at e Whole n (signs.Word fixed.Close ∷ rest) refl p q.1 (omega arith))))
  spelled_at (Joined c es) l n rest h p q le =
      placed (stands_at l c es) (By c) l n (parts_nesting (separators.Connective c) es) (Joined c es) (part_signs (separators.Connective c) es) rest h (λ m us vs t d. joined_at l c (second_true (has_parts es) (fits l c) t) d) (λ m us vs d. joined_at Whole c refl d) le
      (λ m us k. many_spelled es c m us p q k)
  spelled_at (AtLeast k es) l zero rest h p q le = absurd (omega arith)
  spelled_at (AtLeast k es) l (suc n) rest h p q le =
      subst (λ (us : List Sign). Spells (suc n) l (signs.Word fixed.At ∷ signs.Word fixed.Least ∷ signs.Literal (Natural k) ∷ signs.Word fixed.Of ∷ us) (AtLeast k es) rest) (sym (closed (part_signs separators.Comma es) rest))
      (single_at l h (listed_spelled es k n rest p.0 p.1 q.1 (omega arith)))

  listed_spelled : (es : Trees) (k n : ℕ) (rest : List Sign) → IsSome es → AreProper es → ArePlain es → parts_nesting separators.Comma es ≤ n → Spells (suc n) Single (signs.Word fixed.At ∷ signs.Word fixed.Least ∷ signs.Literal (Natural k) ∷ signs.Word fixed.Of ∷ signs.Word fixed.Open ∷ (part_signs separators.Comma es ++ signs.Word fixed.Close ∷ rest)) (AtLeast k es) rest
  listed_spelled none k n rest some p q le = absurd some
  listed_spelled (more e es) k n rest some p q le =
      subst (λ (us : List Sign). Spells (suc n) Single (signs.Word fixed.At ∷ signs.Word fixed.Least ∷ signs.Literal (Natural k) ∷ signs.Word fixed.Of ∷ signs.Word fixed.Open ∷ us) (AtLeast k (more e es)) rest) (sym (append_assoc (signs_at Whole e) (follow_signs separators.Comma es) (signs.Word fixed.Close ∷ rest)))
      (at_least (spelled_at e Whole n (follow_signs separators.Comma es ++ signs.Word fixed.Close ∷ rest) refl p.0 q.0 (omega arith)) (rest_spelled es separators.Comma n (signs.Word fixed.Close ∷ rest) p.1 q.1 (omega arith)))

  many_spelled : (es : Trees) (c : Connective) (n : ℕ) (rest : List Sign) → AreMany es → ArePlain es → parts_nesting (separators.Connective c) es ≤ n → Spells n (By c) (part_signs (separators.Connective c) es ++ rest) (Joined c es) rest
  many_spelled none c n rest p q le = absurd p
  many_spelled (more e es) c n rest p q le =
      subst (λ (us : List Sign). Spells n (By c) us (Joined c (more e es)) rest) (sym (append_assoc (signs_at (tighter c) e) (follow_signs (separators.Connective c) es) rest))
      (two_joined es p.1 (spelled_at e (tighter c) n (follow_signs (separators.Connective c) es ++ rest) (part_is_place (separators.Connective c)) p.0 q.0 (omega arith)) (rest_spelled es (separators.Connective c) n rest p.2 q.1 (omega arith)))

  rest_spelled : (es : Trees) (s : Separator) (n : ℕ) (rest : List Sign) → AreProper es → ArePlain es → parts_nesting s es ≤ n → Follow n s (follow_signs s es ++ rest) es rest
  rest_spelled none s n rest p q le = no_more
  rest_spelled (more e es) s n rest p q le =
      subst (λ (us : List Sign). Follow n s (signs.Word (separator_word s) ∷ us) (more e es) rest) (sym (append_assoc (signs_at (part_level s) e) (follow_signs s es) rest))
      (and_more (spelled_at e (part_level s) n (follow_signs s es ++ rest) (part_is_place s) p.0 q.0 (omega arith)) (rest_spelled es s n rest p.1 q.1 (omega arith)))

pub printed : (n : ℕ) (e : Tree) → IsProper e → IsPlain e → nesting_at Whole e ≤ n → IsSpelled n (signs_at Whole e ++ signs.End ∷ []) e
printed n e p q le = spelled_at e Whole n (signs.End ∷ []) refl p q le
