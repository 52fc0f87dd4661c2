-- What is read is spelled so.
use Rattle.std.proofs.Common.{◌≡◌, ℕ, zero, suc, Bool, true, false, cond, List, [], ◌∷◌, length, ◌<◌, Option, Some, None, Result, Ok, Err, refl, sym, ap, subst, ◌∙◌, arith}
use Rattle.std.specs.Prelude.{IfOk}
use Rattle.vet_rules.specs.declared.expression.Connective.{Connective}
use Rattle.vet_rules.specs.declared.expression.Connective.TheVariants.{Or, Xor, And}
use Rattle.vet_rules.specs.declared.expression.HowMany.{HowMany}
use Rattle.vet_rules.specs.declared.expression.HowMany.TheVariants as quantifiers
use Rattle.vet_rules.specs.declared.parser.Separator.{Separator}
use Rattle.vet_rules.specs.declared.parser.Separator.TheVariants as separators
use Rattle.vet_rules.specs.declared.condition.Comparison.{Comparison}
use Rattle.vet_rules.specs.declared.condition.ValueKind.{ValueKind}
use Rattle.vet_rules.specs.declared.fixed.Fixed.{Fixed}
use Rattle.vet_rules.specs.declared.fixed.Fixed.TheVariants as fixed
use Rattle.vet_rules.specs.declared.stop.ReadError.{ReadError}
use Rattle.vet_rules.specs.declared.stop.Stop.{Stop}
use Rattle.vet_rules.specs.declared.error.Expected.{Expected}
use Rattle.vet_rules.specs.declared.error.Expected.TheVariants as expected
use Rattle.vet_rules.specs.declared.expression.Expression.{Expression}
use Rattle.vet_rules.specs.Literals.{Literal, Natural}
use Rattle.vet_rules.specs.Signs as signs
use Rattle.vet_rules.specs.Signs.{Sign}
use Rattle.vet_rules.specs.Conditions.{Condition, Is, Compare, CompareWith, Length, IsOf}
use Rattle.vet_rules.specs.Conditions.{Relate, In, KeysIn}
use Rattle.vet_rules.specs.Trees.{tree_of, Tree, Test, Not, Implies, Quantified, AtLeast}
use Rattle.vet_rules.specs.Trees.{none, more, trees_of}
use Rattle.vet_rules.specs.Grammar.{Level, By, Single, Whole, Premise, tighter, separator_word, part_level, path_in, value_in, text_in, Items, last, another, IsList, no_items, items, IsCondition, word, compare, compare_with, has_length, of_kind, relate, among, IsQuantifier, each, any, at_least_items, Spells, test, keys, denied, group, quantified, at_least, alone, joined, no_if, implied, premise, Follow, no_more, and_more, IsSpelled}
use Rattle.vet_rules.specs.Answers.{◌>>=◌, Gives}
use Rattle.vet_rules.specs.Reading.{Reader, Answer, next_word, after, one_at, count_at, comparison_at, kind_at, with_next, parts_at, row_at, or_row, items_at, list_at, other_path_at, operand_at, compared_at, length_at, said_by, condition_at, test_at, keys_at, join, chain, listed, counted_by, counted, threshold, begun_by, single, loosest, implication, begins, whole_by, whole, at_level, part_at, below, is_end, fails, ended, all_of}
use Rattle.vet_rules.specs.Reading as reading
use Rattle.vet_rules.proofs.Loop.{ok_is, one_is}
use Rattle.vet_rules.proofs.Words.{next_is, after_is}
use Rattle.vet_rules.proofs.Steps.{bind_ok}
use Rattle.vet_rules.proofs.Lengths.{spells_shortens}

module _ {A : Type 0} (seen : Sign → Option A) (x : Expected) where
  no_more_items : (us rest : List Sign) (ws : List A) (t : Sign) (v : A) → seen t ≡ Some v → ◌≡◌ {A = Result (List A × List Sign) Stop} (Ok ([], us)) (Ok (ws, signs.Word fixed.CloseList ∷ rest)) → Items seen (t ∷ us) (v ∷ ws) rest
  no_more_items us rest ws t v h e =
      let same : ([], us) ≡ (ws, signs.Word fixed.CloseList ∷ rest) = ok_is ([], us) (ws, signs.Word fixed.CloseList ∷ rest) e in
      subst (λ (zs : List A). Items seen (t ∷ us) (v ∷ zs) rest) (ap (λ (z : List A × List Sign). z.0) same) (subst (λ (vs : List Sign). Items seen (t ∷ vs) (v ∷ []) rest) (sym (ap (λ (z : List A × List Sign). z.1) same)) (last h))

  -- one more item, if a comma is next
  items_by : (go : Reader (List A)) → ((us rest : List Sign) (ws : List A) (t : Sign) (v : A) → seen t ≡ Some v → go us ≡ Ok (ws, signs.Word fixed.CloseList ∷ rest) → Items seen (t ∷ us) (v ∷ ws) rest) → (us rest : List Sign) (ws : List A) (t : Sign) (v : A) → seen t ≡ Some v → (o : Option (List Sign))
      → next_word fixed.Comma us ≡ o → with_next (one_at seen x) go us o ≡ Ok (ws, signs.Word fixed.CloseList ∷ rest) → Items seen (t ∷ us) (v ∷ ws) rest
  items_by go follow us rest ws t v h None n e = no_more_items us rest ws t v h e
  items_by go follow us rest ws t v h (Some vs) n e =
      let a = bind_ok (one_at seen x vs) (λ y. go y.1 >>= λ z. Ok (y.0 ∷ z.0, z.1)) (ws, signs.Word fixed.CloseList ∷ rest) e in
      let b = bind_ok (go a.0.1) (λ z. Ok (a.0.0 ∷ z.0, z.1)) (ws, signs.Word fixed.CloseList ∷ rest) a.2 in
      let p = one_is seen x vs a.0 a.1 in
      let same : (a.0.0 ∷ b.0.0, b.0.1) ≡ (ws, signs.Word fixed.CloseList ∷ rest) = ok_is (a.0.0 ∷ b.0.0, b.0.1) (ws, signs.Word fixed.CloseList ∷ rest) b.2 in
      let read : go a.0.1 ≡ Ok (b.0.0, signs.Word fixed.CloseList ∷ rest) = b.1 ∙ ap (λ (us : List Sign). Ok (b.0.0, us)) (ap (λ (z : List A × List Sign). z.1) same) in
      let inner : Items seen (p.0 ∷ a.0.1) (a.0.0 ∷ b.0.0) rest = follow a.0.1 rest b.0.0 p.0 a.0.0 p.2 read in
      let behind : us ≡ signs.Word fixed.Comma ∷ p.0 ∷ a.0.1 = next_is fixed.Comma us vs n ∙ ap (λ (us : List Sign). signs.Word fixed.Comma ∷ us) p.1 in
      subst (λ (zs : List A). Items seen (t ∷ us) (v ∷ zs) rest) (ap (λ (z : List A × List Sign). z.0) same) (subst (λ (us : List Sign). Items seen (t ∷ us) (v ∷ a.0.0 ∷ b.0.0) rest) (sym behind) (another h inner))

  -- what follows an item, up to the end of the list
  items_follow : (k : ℕ) (us rest : List Sign) (ws : List A) (t : Sign) (v : A) → seen t ≡ Some v → parts_at k fixed.Comma (one_at seen x) us ≡ Ok (ws, signs.Word fixed.CloseList ∷ rest) → Items seen (t ∷ us) (v ∷ ws) rest
  unfolding parts_at
  items_follow zero us rest ws t v h e = no_more_items us rest ws t v h e
  items_follow (suc k) us rest ws t v h e = items_by (parts_at k fixed.Comma (one_at seen x)) (items_follow k) us rest ws t v h (next_word fixed.Comma us) refl e

  items_are : (ts : List Sign) (y : List A × List Sign) → row_at fixed.CloseList expected.ListGoesOn (one_at seen x) ts ≡ Ok y → Items seen ts y.0 y.1
  unfolding row_at
  items_are ts y e =
      let a = bind_ok (one_at seen x ts) (λ v. parts_at (length v.1) fixed.Comma (one_at seen x) v.1 >>= λ es. after fixed.CloseList expected.ListGoesOn es.1 >>= λ rest. Ok (v.0 ∷ es.0, rest)) y e in
      let b = bind_ok (parts_at (length a.0.1) fixed.Comma (one_at seen x) a.0.1) (λ es. after fixed.CloseList expected.ListGoesOn es.1 >>= λ rest. Ok (a.0.0 ∷ es.0, rest)) y a.2 in
      let c = bind_ok (after fixed.CloseList expected.ListGoesOn b.0.1) (λ rest. Ok (a.0.0 ∷ b.0.0, rest)) y b.2 in
      let p = one_is seen x ts a.0 a.1 in
      let read : parts_at (length a.0.1) fixed.Comma (one_at seen x) a.0.1 ≡ Ok (b.0.0, signs.Word fixed.CloseList ∷ c.0) = b.1 ∙ ap (λ (us : List Sign). Ok (b.0.0, us)) (after_is fixed.CloseList expected.ListGoesOn b.0.1 c.0 c.1) in
      subst (λ (z : List A × List Sign). Items seen ts z.0 z.1) (ok_is (a.0.0 ∷ b.0.0, c.0) y c.2)
      (subst (λ (us : List Sign). Items seen us (a.0.0 ∷ b.0.0) c.0) (sym p.1) (items_follow (length a.0.1) a.0.1 c.0 b.0.0 p.0 a.0.0 p.2 read))

  list_by : (ts : List Sign) (y : List A × List Sign) (o : Option (List Sign)) → next_word fixed.CloseList ts ≡ o → or_row (one_at seen x) ts o ≡ Ok y → IsList seen (signs.Word fixed.OpenList ∷ ts) y.0 y.1
  list_by ts y (Some us) n e =
      subst (λ (z : List A × List Sign). IsList seen (signs.Word fixed.OpenList ∷ ts) z.0 z.1) (ok_is ([], us) y e)
      (subst (λ (vs : List Sign). IsList seen (signs.Word fixed.OpenList ∷ vs) [] us) (sym (next_is fixed.CloseList ts us n)) no_items)
  list_by ts y None n e = items (items_are ts y e)

  list_is : (ts : List Sign) (y : List A × List Sign) → list_at (one_at seen x) ts ≡ Ok y → IsList seen ts y.0 y.1
  unfolding list_at items_at
  list_is ts y e =
      let a = bind_ok (after fixed.OpenList expected.List ts) (items_at (one_at seen x)) y e in
      subst (λ (us : List Sign). IsList seen us y.0 y.1) (sym (after_is fixed.OpenList expected.List ts a.0 a.1)) (list_by a.0 y (next_word fixed.CloseList a.0) refl a.2)

count_is : (ts : List Sign) (x : ℕ × List Sign) → count_at ts ≡ Ok x → ts ≡ signs.Literal (Natural x.0) ∷ x.1
unfolding count_at
count_is (signs.Literal (Natural k) ∷ ts) x e = ap (λ (y : ℕ × List Sign). signs.Literal (Natural y.0) ∷ y.1) (ok_is (k, ts) x e)
count_is ts x e = absurd cc

other_path_is : (o : Comparison) (ts : List Sign) (x : Condition × List Sign) → other_path_at o ts ≡ Ok x → IsCondition (signs.Word (fixed.Comparison o) ∷ ts) x.0 x.1
unfolding other_path_at
other_path_is o (signs.Path path ∷ ts) x e = subst (λ (y : Condition × List Sign). IsCondition (signs.Word (fixed.Comparison o) ∷ signs.Path path ∷ ts) y.0 y.1) (ok_is (CompareWith o path, ts) x e) compare_with
other_path_is o ts x e = absurd cc

operand_is : (o : Comparison) (t : Sign) (ts : List Sign) (x : Condition × List Sign) (v : Option Literal) → value_in t ≡ v → operand_at o (t ∷ ts) ts v ≡ Ok x → IsCondition (signs.Word (fixed.Comparison o) ∷ t ∷ ts) x.0 x.1
operand_is o t ts x (Some v) h e = subst (λ (y : Condition × List Sign). IsCondition (signs.Word (fixed.Comparison o) ∷ t ∷ ts) y.0 y.1) (ok_is (Compare o v, ts) x e) (compare h)
operand_is o t ts x None h e = other_path_is o (t ∷ ts) x e

compared_is : (o : Comparison) (ts : List Sign) (x : Condition × List Sign) → compared_at o ts ≡ Ok x → IsCondition (signs.Word (fixed.Comparison o) ∷ ts) x.0 x.1
unfolding compared_at
compared_is o [] x e = absurd cc
compared_is o (t ∷ ts) x e = operand_is o t ts x (value_in t) refl e

comparison_is : (ts : List Sign) (x : Comparison × List Sign) → comparison_at ts ≡ Ok x → ts ≡ signs.Word (fixed.Comparison x.0) ∷ x.1
unfolding comparison_at
comparison_is (signs.Word (fixed.Comparison o) ∷ ts) x e = ap (λ (y : Comparison × List Sign). signs.Word (fixed.Comparison y.0) ∷ y.1) (ok_is (o, ts) x e)
comparison_is ts x e = absurd cc

length_is : (ts : List Sign) (x : Condition × List Sign) → length_at ts ≡ Ok x → IsCondition (signs.Word fixed.Length ∷ ts) x.0 x.1
unfolding length_at
length_is ts x e =
    let a = bind_ok (comparison_at ts) (λ o. count_at o.1 >>= λ n. Ok (Length o.0 n.0, n.1)) x e in
    let b = bind_ok (count_at a.0.1) (λ n. Ok (Length a.0.0 n.0, n.1)) x a.2 in
    let made : IsCondition (signs.Word fixed.Length ∷ signs.Word (fixed.Comparison a.0.0) ∷ signs.Literal (Natural b.0.0) ∷ b.0.1) (Length a.0.0 b.0.0) b.0.1 = has_length in
    let front : ts ≡ signs.Word (fixed.Comparison a.0.0) ∷ signs.Literal (Natural b.0.0) ∷ b.0.1 = comparison_is ts a.0 a.1 ∙ ap (λ (us : List Sign). signs.Word (fixed.Comparison a.0.0) ∷ us) (count_is a.0.1 b.0 b.1) in
    subst (λ (y : Condition × List Sign). IsCondition (signs.Word fixed.Length ∷ ts) y.0 y.1) (ok_is (Length a.0.0 b.0.0, b.0.1) x b.2)
    (subst (λ (us : List Sign). IsCondition (signs.Word fixed.Length ∷ us) (Length a.0.0 b.0.0) b.0.1) (sym front) made)

kind_is : (ts : List Sign) (x : ValueKind × List Sign) → kind_at ts ≡ Ok x → IsCondition (signs.Word fixed.Is ∷ ts) (IsOf x.0) x.1
unfolding kind_at
kind_is (signs.Word (fixed.ValueKind k) ∷ ts) x e = subst (λ (y : ValueKind × List Sign). IsCondition (signs.Word fixed.Is ∷ signs.Word (fixed.ValueKind k) ∷ ts) (IsOf y.0) y.1) (ok_is (k, ts) x e) of_kind
kind_is ts x e = absurd cc

said_is : (f : Fixed) (ts : List Sign) (x : Condition × List Sign) → said_by f ts ≡ Ok x → IsCondition (signs.Word f ∷ ts) x.0 x.1
unfolding said_by
said_is (fixed.State s) ts x e = subst (λ (y : Condition × List Sign). IsCondition (signs.Word (fixed.State s) ∷ ts) y.0 y.1) (ok_is (Is s, ts) x e) word
said_is (fixed.Comparison o) ts x e = compared_is o ts x e
said_is fixed.Length ts x e = length_is ts x e
said_is fixed.Is ts x e =
    let b = bind_ok (kind_at ts) (λ y. Ok (IsOf y.0, y.1)) x e in
    subst (λ (y : Condition × List Sign). IsCondition (signs.Word fixed.Is ∷ ts) y.0 y.1) (ok_is (IsOf b.0.0, b.0.1) x b.2) (kind_is ts b.0 b.1)
said_is (fixed.Relation r) ts x e =
    let b = bind_ok (one_at text_in expected.Text ts) (λ y. Ok (Relate r y.0, y.1)) x e in
    let p = one_is text_in expected.Text ts b.0 b.1 in
    subst (λ (y : Condition × List Sign). IsCondition (signs.Word (fixed.Relation r) ∷ ts) y.0 y.1) (ok_is (Relate r b.0.0, b.0.1) x b.2)
    (subst (λ (us : List Sign). IsCondition (signs.Word (fixed.Relation r) ∷ us) (Relate r b.0.0) b.0.1) (sym p.1) (relate p.2))
said_is fixed.In ts x e =
    let b = bind_ok (list_at (one_at value_in expected.Literal) ts) (λ y. Ok (In y.0, y.1)) x e in
    subst (λ (y : Condition × List Sign). IsCondition (signs.Word fixed.In ∷ ts) y.0 y.1) (ok_is (In b.0.0, b.0.1) x b.2) (among (list_is value_in expected.Literal ts b.0 b.1))
said_is f ts x e = absurd cc

condition_is : (ts : List Sign) (x : Condition × List Sign) → condition_at ts ≡ Ok x → IsCondition ts x.0 x.1
unfolding condition_at
condition_is (signs.Word f ∷ ts) x e = said_is f ts x e
condition_is ts x e = absurd cc

test_is : (n : ℕ) (ts : List Sign) (x : Tree × List Sign) → test_at ts ≡ Ok x → Spells n Single ts x.0 x.1
unfolding test_at
test_is n ts x e =
    let a = bind_ok (one_at path_in expected.Expression ts) (λ p. condition_at p.1 >>= λ y. Ok (Test p.0 y.0, y.1)) x e in
    let b = bind_ok (condition_at a.0.1) (λ y. Ok (Test a.0.0 y.0, y.1)) x a.2 in
    let p = one_is path_in expected.Expression ts a.0 a.1 in
    let made : Spells n Single (p.0 ∷ a.0.1) (Test a.0.0 b.0.0) b.0.1 = test p.2 (condition_is a.0.1 b.0 b.1) in
    subst (λ (y : Tree × List Sign). Spells n Single ts y.0 y.1) (ok_is (Test a.0.0 b.0.0, b.0.1) x b.2) (subst (λ (us : List Sign). Spells n Single us (Test a.0.0 b.0.0) b.0.1) (sym p.1) made)

keys_are : (n : ℕ) (ts : List Sign) (x : Tree × List Sign) → keys_at ts ≡ Ok x → Spells n Single (signs.Word fixed.Keys ∷ ts) x.0 x.1
unfolding keys_at
keys_are n ts x e =
    let a = bind_ok (one_at path_in expected.Path ts) (λ p. after fixed.In expected.In p.1 >>= λ us. list_at (one_at text_in expected.Text) us >>= λ y. Ok (Test p.0 (KeysIn y.0), y.1)) x e in
    let b = bind_ok (after fixed.In expected.In a.0.1) (λ us. list_at (one_at text_in expected.Text) us >>= λ y. Ok (Test a.0.0 (KeysIn y.0), y.1)) x a.2 in
    let c = bind_ok (list_at (one_at text_in expected.Text) b.0) (λ y. Ok (Test a.0.0 (KeysIn y.0), y.1)) x b.2 in
    let p = one_is path_in expected.Path ts a.0 a.1 in
    let made : Spells n Single (signs.Word fixed.Keys ∷ p.0 ∷ signs.Word fixed.In ∷ b.0) (Test a.0.0 (KeysIn c.0.0)) c.0.1 = keys p.2 (list_is text_in expected.Text b.0 c.0 c.1) in
    let front : ts ≡ p.0 ∷ signs.Word fixed.In ∷ b.0 = p.1 ∙ ap (λ (us : List Sign). p.0 ∷ us) (after_is fixed.In expected.In a.0.1 b.0 b.1) in
    subst (λ (y : Tree × List Sign). Spells n Single (signs.Word fixed.Keys ∷ ts) y.0 y.1) (ok_is (Test a.0.0 (KeysIn c.0.0), c.0.1) x c.2)
    (subst (λ (us : List Sign). Spells n Single (signs.Word fixed.Keys ∷ us) (Test a.0.0 (KeysIn c.0.0)) c.0.1) (sym front) made)

-- ---- rows

next_part_is : (n : ℕ) (s : Separator) (part : List Sign → Answer) (go : Reader (List Tree)) → ((ts : List Sign) (x : Tree × List Sign) → part ts ≡ Ok x → Spells n (part_level s) ts x.0 x.1)
    → ((ts : List Sign) (x : List Tree × List Sign) → go ts ≡ Ok x → Follow n s ts (trees_of x.0) x.1) → (ts : List Sign) (x : List Tree × List Sign) (o : Option (List Sign)) → next_word (separator_word s) ts ≡ o → with_next part go ts o ≡ Ok x → Follow n s ts (trees_of x.0) x.1
next_part_is n s part go h k ts x None next e = subst (λ (y : List Tree × List Sign). Follow n s ts (trees_of y.0) y.1) (ok_is ([], ts) x e) no_more
next_part_is n s part go h k ts x (Some us) next e =
    let a = bind_ok (part us) (λ y. go y.1 >>= λ z. Ok (y.0 ∷ z.0, z.1)) x e in
    let b = bind_ok (go a.0.1) (λ z. Ok (a.0.0 ∷ z.0, z.1)) x a.2 in
    let made : Follow n s (signs.Word (separator_word s) ∷ us) (more a.0.0 (trees_of b.0.0)) b.0.1 = and_more (h us a.0 a.1) (k a.0.1 b.0 b.1) in
    subst (λ (y : List Tree × List Sign). Follow n s ts (trees_of y.0) y.1) (ok_is (a.0.0 ∷ b.0.0, b.0.1) x b.2) (subst (λ (vs : List Sign). Follow n s vs (more a.0.0 (trees_of b.0.0)) b.0.1) (sym (next_is (separator_word s) ts us next)) made)

parts_are : (n k : ℕ) (s : Separator) (part : List Sign → Answer) → ((ts : List Sign) (x : Tree × List Sign) → part ts ≡ Ok x → Spells n (part_level s) ts x.0 x.1)
    → (ts : List Sign) (x : List Tree × List Sign) → parts_at k (separator_word s) part ts ≡ Ok x → Follow n s ts (trees_of x.0) x.1
unfolding parts_at
parts_are n zero s part h ts x e = subst (λ (y : List Tree × List Sign). Follow n s ts (trees_of y.0) y.1) (ok_is ([], ts) x e) no_more
parts_are n (suc k) s part h ts x e = next_part_is n s part (parts_at k (separator_word s) part) h (parts_are n k s part h) ts x (next_word (separator_word s) ts) refl e

-- the reader of what is deeper is right
abbrev pub IsRightBelow : ℕ → Type 0
IsRightBelow n = (l : Level) (ts : List Sign) (x : Tree × List Sign) → below n l ts ≡ Ok x → (m : ℕ) × (n ≡ suc m) × Spells m l ts x.0 x.1

module _ (n : ℕ) (right : IsRightBelow n) where
  group_is : (ts : List Sign) (x : Tree × List Sign) → reading.group (below n) ts ≡ Ok x → (m : ℕ) × (n ≡ suc m) × Spells m Whole ts x.0 (signs.Word fixed.Close ∷ x.1)
  unfolding reading.group
  group_is ts x e =
      let a = bind_ok (below n Whole ts) (λ y. after fixed.Close expected.Close y.1 >>= λ rest. Ok (y.0, rest)) x e in
      let b = bind_ok (after fixed.Close expected.Close a.0.1) (λ rest. Ok (a.0.0, rest)) x a.2 in
      let d = right Whole ts a.0 a.1 in
      let inner = subst (λ (us : List Sign). Spells d.0 Whole ts a.0.0 us) (after_is fixed.Close expected.Close a.0.1 b.0 b.1) d.2 in
      (d.0, d.1, subst (λ (y : Tree × List Sign). Spells d.0 Whole ts y.0 (signs.Word fixed.Close ∷ y.1)) (ok_is (a.0.0, b.0) x b.2) inner)

  quantified_is : (y : Expected) (q : HowMany) (front ts : List Sign) (x : Tree × List Sign) → IsQuantifier front q ts → reading.quantified (below n) y q ts ≡ Ok x → Spells n Single front x.0 x.1
  unfolding reading.quantified
  quantified_is y q front ts x begins e =
      let a = bind_ok (one_at path_in y ts) (λ p. after fixed.Open expected.Open p.1 >>= λ us. reading.group (below n) us >>= λ z. Ok (Quantified q p.0 z.0, z.1)) x e in
      let b = bind_ok (after fixed.Open expected.Open a.0.1) (λ us. reading.group (below n) us >>= λ z. Ok (Quantified q a.0.0 z.0, z.1)) x a.2 in
      let c = bind_ok (reading.group (below n) b.0) (λ z. Ok (Quantified q a.0.0 z.0, z.1)) x b.2 in
      let d = group_is b.0 c.0 c.1 in
      let p = one_is path_in y ts a.0 a.1 in
      let behind : ts ≡ p.0 ∷ signs.Word fixed.Open ∷ b.0 = p.1 ∙ ap (λ (us : List Sign). p.0 ∷ us) (after_is fixed.Open expected.Open a.0.1 b.0 b.1) in
      let spelled : Spells (suc d.0) Single front (Quantified q a.0.0 c.0.0) c.0.1 = quantified p.2 (subst (λ (us : List Sign). IsQuantifier front q us) behind begins) d.2 in
      let made = subst (λ (z : Tree × List Sign). Spells (suc d.0) Single front z.0 z.1) (ok_is (Quantified q a.0.0 c.0.0, c.0.1) x c.2) spelled in
      subst (λ (k : ℕ). Spells k Single front x.0 x.1) (sym d.1) made

  -- each part of a list is one deeper
  listed_is : (k : ℕ) (ts : List Sign) (x : Tree × List Sign) → listed (below n) k ts ≡ Ok x → Spells n Single (signs.Word fixed.At ∷ signs.Word fixed.Least ∷ signs.Literal (Natural k) ∷ signs.Word fixed.Of ∷ ts) x.0 x.1
  unfolding listed row_at
  listed_is k ts x e =
      let o = bind_ok (after fixed.Open expected.Open ts) (λ us. row_at fixed.Close expected.PartsGoOn (below n Whole) us >>= λ y. Ok (AtLeast k (trees_of y.0), y.1)) x e in
      let r = bind_ok (row_at fixed.Close expected.PartsGoOn (below n Whole) o.0) (λ y. Ok (AtLeast k (trees_of y.0), y.1)) x o.2 in
      let a = bind_ok (below n Whole o.0) (λ y. parts_at (length y.1) fixed.Comma (below n Whole) y.1 >>= λ z. after fixed.Close expected.PartsGoOn z.1 >>= λ rest. Ok (y.0 ∷ z.0, rest)) r.0 r.1 in
      let b = bind_ok (parts_at (length a.0.1) fixed.Comma (below n Whole) a.0.1) (λ z. after fixed.Close expected.PartsGoOn z.1 >>= λ rest. Ok (a.0.0 ∷ z.0, rest)) r.0 a.2 in
      let c = bind_ok (after fixed.Close expected.PartsGoOn b.0.1) (λ rest. Ok (a.0.0 ∷ b.0.0, rest)) r.0 b.2 in
      let d = right Whole o.0 a.0 a.1 in
      let part : (us : List Sign) (y : Tree × List Sign) → below n Whole us ≡ Ok y → Spells d.0 Whole us y.0 y.1 =
      λ us y h. let s = right Whole us y h in subst (λ (m : ℕ). Spells m Whole us y.0 y.1) (omega (arith, s.1, d.1)) s.2 in
      let others = subst (λ (us : List Sign). Follow d.0 separators.Comma a.0.1 (trees_of b.0.0) us) (after_is fixed.Close expected.PartsGoOn b.0.1 c.0 c.1) (parts_are d.0 (length a.0.1) separators.Comma (below n Whole) part a.0.1 b.0 b.1) in
      let front : List Sign → List Sign = λ us. signs.Word fixed.At ∷ signs.Word fixed.Least ∷ signs.Literal (Natural k) ∷ signs.Word fixed.Of ∷ us in
      let spelled : Spells (suc d.0) Single (front (signs.Word fixed.Open ∷ o.0)) (AtLeast k (more a.0.0 (trees_of b.0.0))) c.0 = at_least d.2 others in
      let read : (AtLeast k (more a.0.0 (trees_of b.0.0)), c.0) ≡ x = ap (λ (y : List Tree × List Sign). (AtLeast k (trees_of y.0), y.1)) (ok_is (a.0.0 ∷ b.0.0, c.0) r.0 c.2) ∙ ok_is (AtLeast k (trees_of r.0.0), r.0.1) x r.2 in
      let made = subst (λ (y : Tree × List Sign). Spells (suc d.0) Single (front (signs.Word fixed.Open ∷ o.0)) y.0 y.1) read spelled in
      subst (λ (us : List Sign). Spells n Single (front us) x.0 x.1) (sym (after_is fixed.Open expected.Open ts o.0 o.1)) (subst (λ (m : ℕ). Spells m Single (front (signs.Word fixed.Open ∷ o.0)) x.0 x.1) (sym d.1) made)

  counted_is : (k : ℕ) (ts : List Sign) (x : Tree × List Sign) (o : Option (List Sign)) → next_word fixed.Of ts ≡ o → counted_by (below n) k ts o ≡ Ok x → Spells n Single (signs.Word fixed.At ∷ signs.Word fixed.Least ∷ signs.Literal (Natural k) ∷ ts) x.0 x.1
  counted_is k ts x (Some us) h e = subst (λ (vs : List Sign). Spells n Single (signs.Word fixed.At ∷ signs.Word fixed.Least ∷ signs.Literal (Natural k) ∷ vs) x.0 x.1) (sym (next_is fixed.Of ts us h)) (listed_is k us x e)
  counted_is k ts x None h e = quantified_is expected.Counted (quantifiers.AtLeast k) (signs.Word fixed.At ∷ signs.Word fixed.Least ∷ signs.Literal (Natural k) ∷ ts) ts x at_least_items e

  threshold_is : (ts : List Sign) (x : Tree × List Sign) → threshold (below n) ts ≡ Ok x → Spells n Single (signs.Word fixed.At ∷ ts) x.0 x.1
  unfolding threshold counted
  threshold_is ts x e =
      let a = bind_ok (after fixed.Least expected.Least ts) (λ us. count_at us >>= λ k. counted (below n) k.0 k.1) x e in
      let b = bind_ok (count_at a.0) (λ k. counted (below n) k.0 k.1) x a.2 in
      let front : ts ≡ signs.Word fixed.Least ∷ signs.Literal (Natural b.0.0) ∷ b.0.1 = after_is fixed.Least expected.Least ts a.0 a.1 ∙ ap (λ (us : List Sign). signs.Word fixed.Least ∷ us) (count_is a.0 b.0 b.1) in
      subst (λ (us : List Sign). Spells n Single (signs.Word fixed.At ∷ us) x.0 x.1) (sym front) (counted_is b.0.0 b.0.1 x (next_word fixed.Of b.0.1) refl b.2)

  begun_is : (f : Fixed) (ts : List Sign) (x : Tree × List Sign) → begun_by (below n) f ts ≡ Ok x → Spells n Single (signs.Word f ∷ ts) x.0 x.1
  unfolding begun_by
  begun_is fixed.Not ts x e =
      let b = bind_ok (below n Single ts) (λ y. Ok (Not y.0, y.1)) x e in
      let d = right Single ts b.0 b.1 in
      let made = subst (λ (y : Tree × List Sign). Spells (suc d.0) Single (signs.Word fixed.Not ∷ ts) y.0 y.1) (ok_is (Not b.0.0, b.0.1) x b.2) (denied d.2) in
      subst (λ (k : ℕ). Spells k Single (signs.Word fixed.Not ∷ ts) x.0 x.1) (sym d.1) made
  begun_is fixed.Open ts x e = let d = group_is ts x e in subst (λ (k : ℕ). Spells k Single (signs.Word fixed.Open ∷ ts) x.0 x.1) (sym d.1) (group d.2)
  begun_is fixed.Each ts x e = quantified_is expected.Path quantifiers.Each (signs.Word fixed.Each ∷ ts) ts x each e
  begun_is fixed.Any ts x e = quantified_is expected.Path quantifiers.Any (signs.Word fixed.Any ∷ ts) ts x any e
  begun_is fixed.At ts x e = threshold_is ts x e
  begun_is fixed.Keys ts x e = keys_are n ts x e
  begun_is f ts x e = absurd cc

  single_is : (ts : List Sign) (x : Tree × List Sign) → single (below n) ts ≡ Ok x → Spells n Single ts x.0 x.1
  unfolding single
  single_is (signs.Word f ∷ ts) x e = begun_is f ts x e
  single_is ts x e = test_is n ts x e

  nothing_follows : {s : Separator} {ts rest : List Sign} → Follow n s ts none rest → ts ≡ rest
  nothing_follows no_more = refl

  join_spelled : (c : Connective) (ts us rest : List Sign) (e : Tree) (es : List Tree) → Spells n (tighter c) ts e us → Follow n (separators.Connective c) us (trees_of es) rest → Spells n (By c) ts (join c e es) rest
  join_spelled c ts us rest e [] d f = alone (subst (λ (vs : List Sign). Spells n (tighter c) ts e vs) (nothing_follows f) d)
  join_spelled c ts us rest e (g ∷ es) d f = joined d f

  chain_is : (c : Connective) (part : List Sign → Answer) → ((ts : List Sign) (x : Tree × List Sign) → part ts ≡ Ok x → Spells n (tighter c) ts x.0 x.1) → (ts : List Sign) (x : Tree × List Sign) → chain c part ts ≡ Ok x → Spells n (By c) ts x.0 x.1
  unfolding chain
  chain_is c part h ts x e =
      let a = bind_ok (part ts) (λ y. parts_at (length y.1) (fixed.Join c) part y.1 >>= λ z. Ok (join c y.0 z.0, z.1)) x e in
      let b = bind_ok (parts_at (length a.0.1) (fixed.Join c) part a.0.1) (λ z. Ok (join c a.0.0 z.0, z.1)) x a.2 in
      subst (λ (y : Tree × List Sign). Spells n (By c) ts y.0 y.1) (ok_is (join c a.0.0 b.0.0, b.0.1) x b.2)
      (join_spelled c ts a.0.1 b.0.1 a.0.0 b.0.0 (h ts a.0 a.1) (parts_are n (length a.0.1) (separators.Connective c) part h a.0.1 b.0 b.1))

  loosest_is : (ts : List Sign) (x : Tree × List Sign) → loosest (below n) ts ≡ Ok x → Spells n (By Or) ts x.0 x.1
  loosest_is = chain_is Or (chain Xor (chain And (single (below n)))) (chain_is Xor (chain And (single (below n))) (chain_is And (single (below n)) single_is))

  implied_is : (ts : List Sign) (x : Tree × List Sign) → implication (below n) ts ≡ Ok x → Spells n Whole (signs.Word fixed.If ∷ ts) x.0 x.1
  unfolding implication
  implied_is ts x e =
      let a = bind_ok (below n Premise ts) (λ y. after fixed.Then expected.Then y.1 >>= λ us. below n Whole us >>= λ z. Ok (Implies y.0 z.0, z.1)) x e in
      let b = bind_ok (after fixed.Then expected.Then a.0.1) (λ us. below n Whole us >>= λ z. Ok (Implies a.0.0 z.0, z.1)) x a.2 in
      let c = bind_ok (below n Whole b.0) (λ z. Ok (Implies a.0.0 z.0, z.1)) x b.2 in
      let d = right Premise ts a.0 a.1 in
      let g = right Whole b.0 c.0 c.1 in
      let first = subst (λ (us : List Sign). Spells d.0 Premise ts a.0.0 us) (after_is fixed.Then expected.Then a.0.1 b.0 b.1) d.2 in
      let second = subst (λ (m : ℕ). Spells m Whole b.0 c.0.0 c.0.1) (omega (arith, d.1, g.1)) g.2 in
      let spelled : Spells (suc d.0) Whole (signs.Word fixed.If ∷ ts) (Implies a.0.0 c.0.0) c.0.1 = implied first second in
      let made = subst (λ (y : Tree × List Sign). Spells (suc d.0) Whole (signs.Word fixed.If ∷ ts) y.0 y.1) (ok_is (Implies a.0.0 c.0.0, c.0.1) x c.2) spelled in
      subst (λ (m : ℕ). Spells m Whole (signs.Word fixed.If ∷ ts) x.0 x.1) (sym d.1) made

  whole_cases : (ts : List Sign) (x : Tree × List Sign) (b : Bool) → cond b (loosest (below n) ts) (fails expected.Whole ts) ≡ Ok x → Spells n Whole ts x.0 x.1
  whole_cases ts x true e = no_if (loosest_is ts x e)
  whole_cases ts x false e = absurd cc

  whole_is_by : (ts : List Sign) (x : Tree × List Sign) (o : Option (List Sign)) → next_word fixed.If ts ≡ o → whole_by (below n) ts o ≡ Ok x → Spells n Whole ts x.0 x.1
  whole_is_by ts x (Some us) h e = subst (λ (vs : List Sign). Spells n Whole vs x.0 x.1) (sym (next_is fixed.If ts us h)) (implied_is us x e)
  whole_is_by ts x None h e = whole_cases ts x (begins ts) e

  whole_is : (ts : List Sign) (x : Tree × List Sign) → whole (below n) ts ≡ Ok x → Spells n Whole ts x.0 x.1
  unfolding whole
  whole_is ts x e = whole_is_by ts x (next_word fixed.If ts) refl e

  level_is : (l : Level) (ts : List Sign) (x : Tree × List Sign) → at_level (below n) l ts ≡ Ok x → Spells n l ts x.0 x.1
  unfolding at_level
  level_is Single ts x e = single_is ts x e
  level_is (By And) ts x e = chain_is And (single (below n)) single_is ts x e
  level_is (By Xor) ts x e = chain_is Xor (chain And (single (below n))) (chain_is And (single (below n)) single_is) ts x e
  level_is (By Or) ts x e = loosest_is ts x e
  level_is Whole ts x e = whole_is ts x e
  level_is Premise ts x e = let d = right Whole ts x e in subst (λ (k : ℕ). Spells k Premise ts x.0 x.1) (sym d.1) (premise d.2)

pub right_below : (n : ℕ) → IsRightBelow n
unfolding below
right_below zero l ts x e = absurd cc
right_below (suc n) l ts x e = (n, refl, level_is n (right_below n) l ts x e)

end_is : (ts : List Sign) → is_end ts ≡ true → ts ≡ signs.End ∷ []
end_is (signs.End ∷ []) e = refl
end_is ts e = absurd cc

ended_by : (b : Bool) (x : Tree × List Sign) (e : Tree) → is_end x.1 ≡ b → cond b (Ok x.0) (fails expected.End x.1) ≡ Ok e → (x.0 ≡ e) × (x.1 ≡ signs.End ∷ [])
ended_by true x e p h = (ok_is x.0 e h, end_is x.1 p)
ended_by false x e p h = absurd cc

ended_is : (n : ℕ) (ts : List Sign) (e : Tree) (x : Tree × List Sign) → Spells n Whole ts x.0 x.1 → ended x ≡ Ok e → Spells n Whole ts e (signs.End ∷ [])
unfolding ended
ended_is n ts e x s h =
    let p = ended_by (is_end x.1) x e refl h in
    subst (λ (t : Tree). Spells n Whole ts t (signs.End ∷ [])) p.0 (subst (λ (us : List Sign). Spells n Whole ts x.0 us) p.1 s)

pub spelled : (n : ℕ) (ts : List Sign) (e : Tree) → all_of n ts ≡ Ok e → IsSpelled n ts e
unfolding all_of below
spelled n ts e h =
    let a = bind_ok (below (suc n) Whole ts) ended e h in
    ended_is n ts e a.0 (level_is n (right_below n) Whole ts a.0 a.1) a.2

pub is_spelled : (n : ℕ) (ts : List Sign) (r : Result Expression ReadError) → Gives tree_of r (all_of n ts) → IfOk r (λ e. IsSpelled n ts (tree_of e))
is_spelled n ts (Ok e) given = spelled n ts (tree_of e) given
is_spelled n ts (Err e) given = tt

-- a reader of a part takes tokens from the front
pub part_shortens : (n : ℕ) (s : Separator) (ts : List Sign) (x : Tree × List Sign) → part_at (below n) s ts ≡ Ok x → length x.1 < length ts
part_shortens n (separators.Connective c) ts x e = spells_shortens (level_is n (right_below n) (tighter c) ts x e)
part_shortens n separators.Comma ts x e = spells_shortens (right_below n Whole ts x e).2
