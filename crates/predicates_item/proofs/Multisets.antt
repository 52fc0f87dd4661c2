-- What two lists have beyond each other, by how often each value is a member.
use Rattle.std.proofs.Common.{◌≡◌, ℕ, ◌+◌, ◌-◌, ◌≤◌, Bool, true, false, ◌&&◌, ◌||◌, ◌==◌, cond, List, [], ◌∷◌, ◌++◌, length, Ordering, true≢false, sym, refl, ap, ◌∙◌, arith}
use Rattle.std.specs.Ordering.{is_lt}
use Rattle.std.specs.Cmp.{IsEquivalence}
use Rattle.std.specs.List.{list_all}
use Rattle.std.proofs.lemmas.Bool.{eq-eqb, eqb-true}
use Rattle.std.proofs.lemmas.List.Sums.{sum_by-cons}
use Rattle.std.proofs.lemmas.List.Folds.{list_all-append}
use Rattle.predicates_item.specs.Members.{has_equal}
use Rattle.predicates_item.specs.Multiset.{count_of, has_same_counts, without_one, difference, placed, ascending}

abbrev one : Bool → ℕ
one b = cond b 1 0

count_more : {T : Type 0} (eq : T → T → Bool) (x : T) (xs : List T) (z : T) → count_of eq (x ∷ xs) z ≡ one (eq x z) + count_of eq xs z
count_more eq x xs z = sum_by-cons (λ member. one (eq member z)) x xs

module _ {T : Type 0} {eq : T → T → Bool} (laws : IsEquivalence eq) where
  alike : (x y z : T) → eq x y ≡ true → eq x z ≡ eq y z
  alike = laws.congr

  -- a member that is taken away counts once
  count_without : (ys : List T) (x z : T) → has_equal eq ys x ≡ true → count_of eq ys z ≡ one (eq x z) + count_of eq (without_one eq ys x) z
  count_without [] x z there = absurd (true≢false (sym there))
  count_without (y ∷ ys) x z there = decide (eq y x) refl (count_without ys x z) there where
    decide : (c : Bool) → eq y x ≡ c → (has_equal eq ys x ≡ true → count_of eq ys z ≡ one (eq x z) + count_of eq (without_one eq ys x) z) → (c || has_equal eq ys x) ≡ true → count_of eq (y ∷ ys) z ≡ one (eq x z) + count_of eq (cond c ys (y ∷ without_one eq ys x)) z
    decide true e rest found = count_more eq y ys z ∙ ap (λ b. one b + count_of eq ys z) (alike y x z e)
    decide false e rest found = omega (arith, count_more eq y ys z, count_more eq y (without_one eq ys x) z, rest found)

  -- what equals no member does not count
  count_none : (ys : List T) (x z : T) → has_equal eq ys x ≡ false → eq x z ≡ true → count_of eq ys z ≡ 0
  count_none [] x z absent same = refl
  count_none (y ∷ ys) x z absent same = decide (eq y x) refl absent (count_none ys x z) where
    decide : (c : Bool) → eq y x ≡ c → (c || has_equal eq ys x) ≡ false → (has_equal eq ys x ≡ false → eq x z ≡ true → count_of eq ys z ≡ 0) → count_of eq (y ∷ ys) z ≡ 0
    decide true e none rest = absurd (true≢false none)
    decide false e none rest =
        let other : eq y z ≡ false = laws.symm y z ∙ sym (alike x z y same) ∙ laws.symm x y ∙ e in
        omega (arith, count_more eq y ys z, ap one other, rest none same)

  own_count : (x : T) (xs : List T) → count_of eq (x ∷ xs) x ≡ 1 + count_of eq xs x
  own_count x xs = count_more eq x xs x ∙ ap (λ b. one b + count_of eq xs x) (laws.refl x)

  -- a difference has each value as often as the first list has it more
  pub count_difference : (xs ys : List T) (z : T) → count_of eq (difference eq xs ys) z ≡ count_of eq xs z - count_of eq ys z
  count_difference [] ys z = omega arith
  count_difference (x ∷ xs) ys z = decide (has_equal eq ys x) refl (count_difference xs (without_one eq ys x) z) (count_difference xs ys z) where
    remaining : (b : Bool) → eq x z ≡ b → has_equal eq ys x ≡ false → count_of eq (difference eq xs ys) z ≡ count_of eq xs z - count_of eq ys z → one b + count_of eq (difference eq xs ys) z ≡ (one b + count_of eq xs z) - count_of eq ys z
    remaining true same absent kept = omega (arith, kept, count_none ys x z absent same)
    remaining false same absent kept = omega (arith, kept)

    decide : (c : Bool) → has_equal eq ys x ≡ c → count_of eq (difference eq xs (without_one eq ys x)) z ≡ count_of eq xs z - count_of eq (without_one eq ys x) z → count_of eq (difference eq xs ys) z ≡ count_of eq xs z - count_of eq ys z → count_of eq (cond c (difference eq xs (without_one eq ys x)) (x ∷ difference eq xs ys)) z ≡ count_of eq (x ∷ xs) z - count_of eq ys z
    decide true e taken kept = omega (arith, taken, count_more eq x xs z, count_without ys x z e)
    decide false e taken kept = count_more eq x (difference eq xs ys) z ∙ remaining (eq x z) refl e kept ∙ ap (λ n. n - count_of eq ys z) (sym (count_more eq x xs z))

  -- whether a value is a member, by how often
  has_equal_by_count : (xs ys : List T) (x : T) → count_of eq xs x ≡ count_of eq ys x → has_equal eq xs x ≡ has_equal eq ys x
  has_equal_by_count xs ys x same = decide (has_equal eq xs x) (has_equal eq ys x) refl refl where
    decide : (a b : Bool) → has_equal eq xs x ≡ a → has_equal eq ys x ≡ b → a ≡ b
    decide true true e f = refl
    decide false false e f = refl
    decide true false e f = absurd (omega (arith, same, count_without xs x x e, ap one (laws.refl x), count_none ys x x f (laws.refl x)))
    decide false true e f = absurd (omega (arith, same, count_without ys x x f, ap one (laws.refl x), count_none xs x x e (laws.refl x)))

  -- it depends on how often each value is taken away, and not on their order
  pub difference_by_count : (xs ys zs : List T) → ((z : T) → count_of eq ys z ≡ count_of eq zs z) → difference eq xs ys ≡ difference eq xs zs
  difference_by_count [] ys zs same = refl
  difference_by_count (x ∷ xs) ys zs same = decide (has_equal eq ys x) (has_equal eq zs x) refl refl (has_equal_by_count ys zs x (same x)) (difference_by_count xs (without_one eq ys x) (without_one eq zs x)) (difference_by_count xs ys zs same) where
    decide : (a b : Bool) → has_equal eq ys x ≡ a → has_equal eq zs x ≡ b → has_equal eq ys x ≡ has_equal eq zs x → (((z : T) → count_of eq (without_one eq ys x) z ≡ count_of eq (without_one eq zs x) z) → difference eq xs (without_one eq ys x) ≡ difference eq xs (without_one eq zs x)) → difference eq xs ys ≡ difference eq xs zs → cond a (difference eq xs (without_one eq ys x)) (x ∷ difference eq xs ys) ≡ cond b (difference eq xs (without_one eq zs x)) (x ∷ difference eq xs zs)
    decide true true e f both taken kept = taken (λ z. omega (arith, same z, count_without ys x z e, count_without zs x z f))
    decide false false e f both taken kept = ap (λ us. x ∷ us) kept
    decide true false e f both taken kept = absurd (true≢false (sym e ∙ both ∙ f))
    decide false true e f both taken kept = absurd (true≢false (sym f ∙ sym both ∙ e))

  -- a list with no members beyond another has each value at most as often
  counts_within : (xs ys : List T) → difference eq xs ys ≡ [] → (z : T) → count_of eq xs z ≤ count_of eq ys z
  counts_within xs ys none z =
      let left : count_of eq xs z - count_of eq ys z ≡ 0 = sym (count_difference xs ys z) ∙ ap (λ us. count_of eq us z) none in
      omega (arith, left)

  both_true : (a b : Bool) → (a && b) ≡ true → (a ≡ true) × (b ≡ true)
  both_true true b e = (refl, e)
  both_true false b e = absurd (true≢false (sym e))

  all_remaining : (p : T → Bool) (xs ys : List T) → list_all p xs ≡ true → list_all p (difference eq xs ys) ≡ true
  all_remaining p [] ys all = refl
  all_remaining p (x ∷ xs) ys all = decide (has_equal eq ys x) (both_true (p x) (list_all p xs) all) (all_remaining p xs (without_one eq ys x)) (all_remaining p xs ys) where
    decide : (c : Bool) → (p x ≡ true) × (list_all p xs ≡ true) → (list_all p xs ≡ true → list_all p (difference eq xs (without_one eq ys x)) ≡ true) → (list_all p xs ≡ true → list_all p (difference eq xs ys) ≡ true) → list_all p (cond c (difference eq xs (without_one eq ys x)) (x ∷ difference eq xs ys)) ≡ true
    decide true each taken kept = taken each.1
    decide false each taken kept = rw each.0 (kept each.1)

  -- where each member of the first list is as often in both, the first has none beyond the second
  none_beyond : (p : T → Bool) (xs ys : List T) → ((x : T) → p x ≡ true → count_of eq xs x ≡ count_of eq ys x) → list_all p xs ≡ true → difference eq xs ys ≡ []
  none_beyond p xs ys same all = first (difference eq xs ys) refl (all_remaining p xs ys all) where
    first : (ds : List T) → difference eq xs ys ≡ ds → list_all p ds ≡ true → ds ≡ []
    first [] is each = refl
    first (d ∷ ds) is each =
        let left : count_of eq (d ∷ ds) d ≡ count_of eq xs d - count_of eq ys d = ap (λ us. count_of eq us d) (sym is) ∙ count_difference xs ys d in
        absurd (omega (arith, left, same d (both_true (p d) (list_all p ds) each).0, own_count d ds))

  all_of_each : (p : T → Bool) → ((x : T) → p x ≡ true) → (xs : List T) → list_all p xs ≡ true
  all_of_each p each [] = refl
  all_of_each p each (x ∷ xs) = rw (each x) (all_of_each p each xs)

  same_parts : (xs ys : List T) → has_same_counts eq xs ys ≡ true → (difference eq xs ys ≡ []) × (difference eq ys xs ≡ [])
  same_parts xs ys same =
      let test : T → Bool = λ item. count_of eq xs item == count_of eq ys item in
      let each = both_true (list_all test xs) (list_all test ys) (sym (list_all-append test xs ys) ∙ same) in
      (none_beyond test xs ys (λ x e. eqb-true _ _ e) each.0, none_beyond test ys xs (λ x e. sym (eqb-true _ _ e)) each.1)

  -- lists have the same counts where neither has a member beyond the other, and then only
  pub same_counts : (xs ys : List T) → difference eq xs ys ≡ [] → difference eq ys xs ≡ [] → (z : T) → count_of eq xs z ≡ count_of eq ys z
  same_counts xs ys none no_more z = omega (arith, counts_within xs ys none z, counts_within ys xs no_more z)

  pub same_by_counts : (xs ys : List T) → ((z : T) → count_of eq xs z ≡ count_of eq ys z) → has_same_counts eq xs ys ≡ true
  same_by_counts xs ys same = all_of_each (λ item. count_of eq xs item == count_of eq ys item) (λ item. eq-eqb _ _ (same item)) (xs ++ ys)

  pub counts_of_same : (xs ys : List T) → has_same_counts eq xs ys ≡ true → (z : T) → count_of eq xs z ≡ count_of eq ys z
  counts_of_same xs ys same =
      let none = same_parts xs ys same in
      same_counts xs ys none.0 none.1

  -- the first list is no longer than both together
  length_without : (ys : List T) (x : T) → has_equal eq ys x ≡ true → length ys ≡ 1 + length (without_one eq ys x)
  length_without [] x there = absurd (true≢false (sym there))
  length_without (y ∷ ys) x there = decide (eq y x) there (length_without ys x) where
    decide : (c : Bool) → (c || has_equal eq ys x) ≡ true → (has_equal eq ys x ≡ true → length ys ≡ 1 + length (without_one eq ys x)) → length (y ∷ ys) ≡ 1 + length (cond c ys (y ∷ without_one eq ys x))
    decide true found rest = omega arith
    decide false found rest = omega (arith, rest found)

  length_difference : (xs ys : List T) → length xs ≤ length (difference eq xs ys) + length ys
  length_difference [] ys = omega arith
  length_difference (x ∷ xs) ys = decide (has_equal eq ys x) refl (length_difference xs (without_one eq ys x)) (length_difference xs ys) where
    decide : (c : Bool) → has_equal eq ys x ≡ c → length xs ≤ length (difference eq xs (without_one eq ys x)) + length (without_one eq ys x) → length xs ≤ length (difference eq xs ys) + length ys → length (x ∷ xs) ≤ length (cond c (difference eq xs (without_one eq ys x)) (x ∷ difference eq xs ys)) + length ys
    decide true e taken kept = omega (arith, taken, length_without ys x e)
    decide false e taken kept = omega (arith, kept)

  pub same_lengths : (xs ys : List T) → has_same_counts eq xs ys ≡ true → length xs ≡ length ys
  same_lengths xs ys same =
      let none = same_parts xs ys same in
      omega (arith, length_difference xs ys, length_difference ys xs, ap length none.0, ap length none.1)

  pub other_lengths : (xs ys : List T) → (length ys ≡ length xs → ⊥) → false ≡ has_same_counts eq xs ys
  other_lengths xs ys differ = decide (has_same_counts eq xs ys) refl where
    decide : (c : Bool) → has_same_counts eq xs ys ≡ c → false ≡ c
    decide false e = refl
    decide true e = absurd (differ (sym (same_lengths xs ys e)))

  module _ (cmp : T → T → Ordering) where
    count_placed : (x : T) (xs : List T) (z : T) → count_of eq (placed cmp x xs) z ≡ one (eq x z) + count_of eq xs z
    count_placed x [] z = count_more eq x [] z
    count_placed x (y ∷ ys) z = decide (is_lt (cmp y x)) (count_placed x ys z) where
      decide : (c : Bool) → count_of eq (placed cmp x ys) z ≡ one (eq x z) + count_of eq ys z → count_of eq (cond c (y ∷ placed cmp x ys) (x ∷ y ∷ ys)) z ≡ one (eq x z) + count_of eq (y ∷ ys) z
      decide true rest = omega (arith, rest, count_more eq y (placed cmp x ys) z, count_more eq y ys z)
      decide false rest = count_more eq x (y ∷ ys) z

    -- ascending order keeps how often each value is a member
    pub count_ascending : (xs : List T) (z : T) → count_of eq (ascending cmp xs) z ≡ count_of eq xs z
    count_ascending [] z = refl
    count_ascending (x ∷ xs) z = omega (arith, count_placed x (ascending cmp xs) z, count_more eq x xs z, count_ascending xs z)

    no_members : (ds : List T) → (length ds == 0) ≡ true → ds ≡ []
    no_members [] e = refl
    no_members (d ∷ ds) e = absurd (omega (arith, eqb-true (length (d ∷ ds)) 0 e))

    -- both differences are empty where the lists have the same counts, and then only
    pub none_lack : (members list missing extra : List T) → missing ≡ difference eq members list → extra ≡ difference eq (ascending cmp list) members → ((length missing == 0) && (length extra == 0)) ≡ has_same_counts eq members list
    none_lack members list missing extra is_missing is_extra = decide ((length missing == 0) && (length extra == 0)) (has_same_counts eq members list) refl refl where
      decide : (a b : Bool) → ((length missing == 0) && (length extra == 0)) ≡ a → has_same_counts eq members list ≡ b → a ≡ b
      decide true true e f = refl
      decide false false e f = refl
      decide true false e f =
          let none = both_true (length missing == 0) (length extra == 0) e in
          let same = same_counts members (ascending cmp list) (difference_by_count members (ascending cmp list) list (count_ascending list) ∙ sym is_missing ∙ no_members missing none.0) (sym is_extra ∙ no_members extra none.1) in
          absurd (true≢false (sym (same_by_counts members list (λ z. same z ∙ count_ascending list z)) ∙ f))
      decide false true e f =
          let none = same_parts members list f in
          let same = same_by_counts (ascending cmp list) members (λ z. count_ascending list z ∙ sym (counts_of_same members list f z)) in
          let no_more = same_parts (ascending cmp list) members same in
          absurd (true≢false (sym (both (ap (λ us. length us == 0) (is_missing ∙ none.0)) (ap (λ us. length us == 0) (is_extra ∙ no_more.0))) ∙ e)) where
            both : {a b : Bool} → a ≡ true → b ≡ true → (a && b) ≡ true
            both e f = rw e f
