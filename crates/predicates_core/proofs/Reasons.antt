-- The reasons of a threshold and of an odd join are those of so many parts.
use Rattle.std.proofs.Common.{◌≡◌, ◌⊎◌, ℕ, zero, suc, ◌+◌, ◌≤◌, List, [], ◌∷◌, ◌++◌, Bool, true, false, length, take, drop, get_or, refl, sym, ap, subst, ◌∙◌, arith, inl, inr, ⊎_elim, length-append, length-drop}
use Rattle.std.specs.Prelude.{not}
use Rattle.std.specs.List.{Contains}
use Rattle.std.proofs.lemmas.List.{take-append-drop, length-take-le, nil_from_length, get_or_append_left, get_or-append-add}
use Rattle.std.proofs.lemmas.List.Elements.{Contains-append_left, Contains-append_right, Contains-append_cases}
use mathlib.Core.Bool.{beq}
use Rattle.predicates_core.specs.Label.{Label}
use Rattle.predicates_core.specs.declared.custom.join.Operator.TheVariants.{Xor}
use Rattle.predicates_core.specs.Formula.{Formula, Formulas, one, more, Join, AtLeast, one_if, differ, size, size_of_parts, IsValuation, value, actual, actual_of_parts, truth}
use Rattle.predicates_core.specs.Reason.{AreIncreasing, AreEqualAt, IsReason}
use Rattle.predicates_core.specs.Kinds.{reasons}
use Rattle.predicates_core.proofs.Numbers.{shifted, split, increasing_joined}
use Rattle.predicates_core.proofs.Joins.{joins, joined_value, joined_truth, length-actual, length-actual_of_parts}
use Rattle.predicates_core.proofs.Values.{beq_same, same_truths}
use Rattle.predicates_core.proofs.BothKinds.{never_turned}
use Rattle.predicates_core.proofs.Selection.{IsChosen, chosen_numbers, SomeChosen, IsMadeOf, chosen_others, chosen_both, chosen_none}
use Rattle.predicates_core.proofs.Thresholds.{like, is_like, either, one_like, none_like, one_at_most, like_by_one, like_joined, decisive, by_reached, reached_by}
use Rattle.predicates_core.proofs.Turned.{none_of, contained_below, contains_shifted, unshifted_contains, equal_there, equal_by, equal_at_itself}

-- ---- whether leaves are a reason

equal_or_not : (S : List ℕ) (v w : List Bool) → AreEqualAt S v w ⊎ (AreEqualAt S v w → ⊥)
unfolding AreEqualAt
equal_or_not [] v w = inl tt
equal_or_not (k ∷ S) v w = ⊎_elim
    (λ e. ⊎_elim (λ h. inl (e, h)) (λ n. inr (λ h. n h.1)) (equal_or_not S v w))
    (λ d. inr (λ h. never_turned (get_or w k false) (sym h.0 ∙ d)))
    (either (get_or v k false) (get_or w k false))

-- each valuation is of the one sort, or one is of the other
search_valuations : (n : ℕ) (A B : List Bool → Type 0) → ((w : List Bool) → A w ⊎ B w) → ((w : List Bool) → length w ≡ n → A w) ⊎ ((w : List Bool) × (length w ≡ n) × B w)
search_valuations zero A B sort = ⊎_elim (λ a. inl (λ w e. subst A (sym (nil_from_length w e)) a)) (λ b. inr ([], refl, b)) (sort [])
search_valuations (suc n) A B sort = ⊎_elim
    (λ a. ⊎_elim
    (λ b. inl (λ w e. by_first a b w e))
    (λ y. inr (false ∷ y.0, ap suc y.1, y.2))
    (search_valuations n (λ w. A (false ∷ w)) (λ w. B (false ∷ w)) (λ w. sort (false ∷ w))))
    (λ x. inr (true ∷ x.0, ap suc x.1, x.2))
    (search_valuations n (λ w. A (true ∷ w)) (λ w. B (true ∷ w)) (λ w. sort (true ∷ w)))
  where
    by_first : ((w : List Bool) → length w ≡ n → A (true ∷ w)) → ((w : List Bool) → length w ≡ n → A (false ∷ w)) → (w : List Bool) → length w ≡ suc n → A w
    by_first a b [] e = absurd (omega (arith, e))
    by_first a b (true ∷ w) e = a w (omega (arith, e))
    by_first a b (false ∷ w) e = b w (omega (arith, e))

-- the leaves leave the formula open: some valuation that agrees there turns it
abbrev Turns : Formula → List ℕ → Type 0
Turns f S = (w : List Bool) × IsValuation f w × AreEqualAt S w (actual f) × (value f w ≡ not (truth f))

reason_or_not : (f : Formula) (S : List ℕ) → AreIncreasing 0 (size f) S → IsReason f S ⊎ Turns f S
reason_or_not f S i = ⊎_elim
    (λ a. inl (record { numbers = i; decides = λ w e same. a w e same }))
    (λ x. inr (x.0, x.1, x.2.0, x.2.1))
    (search_valuations (size f) (λ w. AreEqualAt S w (actual f) → value f w ≡ truth f) (λ w. AreEqualAt S w (actual f) × (value f w ≡ not (truth f))) sort)
  where
    sort : (w : List Bool) → (AreEqualAt S w (actual f) → value f w ≡ truth f) ⊎ (AreEqualAt S w (actual f) × (value f w ≡ not (truth f)))
    sort w = ⊎_elim
        (λ same. ⊎_elim (λ e. inl (λ h. e)) (λ d. inr (same, d)) (either (value f w) (truth f)))
        (λ n. inl (λ h. absurd (n h)))
        (equal_or_not S w (actual f))

-- ---- a valuation of the first part and of the others

module _ (f : Formula) (fs : Formulas) (L R : List ℕ) (il : AreIncreasing 0 (size f) L) where
  left_value : (v w : List Bool) → IsValuation f v → (k : ℕ) → Contains L k → get_or (v ++ w) k false ≡ get_or v k false
  left_value v w e k c = get_or_append_left v w false k (let below = contained_below 0 (size f) k L il c in omega (arith, below, e))

  right_value : (v w : List Bool) → IsValuation f v → (k : ℕ) → get_or (v ++ w) (size f + k) false ≡ get_or w k false
  right_value v w e k = rw (← e) (get_or-append-add v w k false)

  abbrev of_left : (k : ℕ) → Contains L k → get_or (actual f ++ actual_of_parts fs) k false ≡ get_or (actual f) k false
  of_left = left_value (actual f) (actual_of_parts fs) (length-actual f)

  abbrev of_right : (k : ℕ) → get_or (actual f ++ actual_of_parts fs) (size f + k) false ≡ get_or (actual_of_parts fs) k false
  of_right = right_value (actual f) (actual_of_parts fs) (length-actual f)

  cut_equal : (w : List Bool) → length w ≡ size f + size_of_parts fs → AreEqualAt (L ++ shifted (size f) R) w (actual f ++ actual_of_parts fs)
      → IsValuation f (take (size f) w) × (length (drop (size f) w) ≡ size_of_parts fs) × AreEqualAt L (take (size f) w) (actual f) × AreEqualAt R (drop (size f) w) (actual_of_parts fs)
  cut_equal w e same =
      let v₁ : List Bool = take (size f) w in
      let v₂ : List Bool = drop (size f) w in
      let e₁ : length v₁ ≡ size f = length-take-le (size f) w (omega arith) in
      let at = λ (k : ℕ) (c : Contains (L ++ shifted (size f) R) k). (equal_there (L ++ shifted (size f) R) (v₁ ++ v₂) (actual f ++ actual_of_parts fs) k c (rw (take-append-drop (size f) w) same)) in (
        e₁,
        omega (arith, length-drop (size f) w),
        equal_by L v₁ (actual f) (λ k c. sym (left_value v₁ v₂ e₁ k c) ∙ at k (Contains-append_left L (shifted (size f) R) k c) ∙ of_left k c),
        equal_by R v₂ (actual_of_parts fs) (λ k c. sym (right_value v₁ v₂ e₁ k) ∙ at (size f + k) (Contains-append_right L (shifted (size f) R) (size f + k) (contains_shifted (size f) k R c)) ∙ of_right k),
      )

  joined_equal : (v w : List Bool) → IsValuation f v → AreEqualAt L v (actual f) → AreEqualAt R w (actual_of_parts fs) → AreEqualAt (L ++ shifted (size f) R) (v ++ w) (actual f ++ actual_of_parts fs)
  joined_equal v w e sv sw = equal_by (L ++ shifted (size f) R) (v ++ w) (actual f ++ actual_of_parts fs) (λ k c. ⊎_elim
      (λ a. left_value v w e k a ∙ equal_there L v (actual f) k a sv ∙ sym (of_left k a))
      (λ b. let u = unshifted_contains (size f) k R b in rw u.1 (right_value v w e u.0 ∙ equal_there R w (actual_of_parts fs) u.0 u.2 sw ∙ sym (of_right u.0)))
      (Contains-append_cases L (shifted (size f) R) k c))

-- ---- a threshold

module _ (b : Bool) where
  -- at least m of the parts have the truth, whatever the other leaves are
  abbrev AreEnough : ℕ → Formulas → List ℕ → Type 0
  AreEnough m fs S = (w : List Bool) → length w ≡ size_of_parts fs → AreEqualAt S w (actual_of_parts fs) → m ≤ like b fs w

  enough_by_chosen : (m : ℕ) (fs : Formulas) (S : List ℕ) → IsChosen reasons (is_like b) m fs S → AreEnough m fs S
  unfolding size actual
  enough_by_chosen zero fs S e w ew same = omega arith
  enough_by_chosen (suc m) (one n f) S h w ew same = let o = one_like (value f w) b (h.1.decides w ew same ∙ same_truths (truth f) b h.0) in omega (arith, o, h.2)
  enough_by_chosen (suc m) (more n f fs) S h w ew same = ⊎_elim
      (λ a.
      let c = cut_equal f fs h.0 h.1 a.1.numbers w ew (rw (← h.2) same) in
      let o = one_like (value f (take (size f) w)) b (a.1.decides (take (size f) w) c.0 c.2 ∙ same_truths (truth f) b a.0) in
      let ih = enough_by_chosen m fs h.1 a.2 (drop (size f) w) c.1 c.3 in
      omega (arith, o, ih))
      (λ x.
      let c = cut_equal f fs h.0 h.1 (chosen_none (size f) h.0 x.0) w ew (rw (← h.2) same) in
      let ih = enough_by_chosen (suc m) fs h.1 x.1 (drop (size f) w) c.1 c.3 in
      omega (arith, ih))
      h.3

  -- for the valuations of the first part and of the others
  enough_joined : (m : ℕ) (n : List ℕ) (f : Formula) (fs : Formulas) (L R : List ℕ) → AreIncreasing 0 (size f) L → AreEnough m (more n f fs) (L ++ shifted (size f) R) → (v w : List Bool) → IsValuation f v → length w ≡ size_of_parts fs → AreEqualAt L v (actual f) → AreEqualAt R w (actual_of_parts fs) → m ≤ one_if (beq (value f v) b) + like b fs w
  unfolding size actual
  enough_joined m n f fs L R il h v w ev ew sv sw =
      subst (λ z. m ≤ z) (like_joined b n f fs v w ev) (h (v ++ w) (omega (arith, length-append v w, ev, ew)) (joined_equal f fs L R il v w ev sv sw))

  -- among leaves by which so many have it are some that are chosen of so many
  chosen_by_enough : (m : ℕ) (fs : Formulas) (S : List ℕ) → AreIncreasing 0 (size_of_parts fs) S → AreEnough m fs S → SomeChosen reasons (is_like b) m fs S
  unfolding size actual truth
  chosen_by_enough zero fs S i h = ([], refl, none_of S)
  chosen_by_enough (suc m) (one n f) S i h =
      let e = h (actual f) (length-actual f) (equal_at_itself S (actual f)) in
      let o = one_at_most (value f (actual f)) b in
      let is : truth f ≡ b = like_by_one (value f (actual f)) b (omega (arith, e)) in
      (S, (beq_same (truth f) b is, record { numbers = i; decides = λ w ew same. like_by_one (value f w) b (let x = h w ew same in omega (arith, x)) ∙ sym is }, omega (arith, e, o)), λ k c. c)
  chosen_by_enough (suc m) (more n f fs) S i h =
      let s = split 0 (size f) (size_of_parts fs) S (omega arith) i in
      let both = enough_joined (suc m) n f fs s.0 s.1 s.3 (subst (AreEnough (suc m) (more n f fs)) s.2 h) in
      let others = chosen_others reasons (is_like b) m n f fs S s.0 s.1 s.2 in
      ⊎_elim
      (λ is. ⊎_elim
      (λ r. chosen_both reasons (is_like b) m n f fs S s.0 s.1 s.2 (beq_same (truth f) b is) r
      (chosen_by_enough m fs s.1 s.4 (λ w ew sw. let e = both (actual f) w (length-actual f) ew (equal_at_itself s.0 (actual f)) sw in let o = one_at_most (value f (actual f)) b in omega (arith, e, o))))
      (λ t. others (chosen_by_enough (suc m) fs s.1 s.4 (λ w ew sw. let e = both t.0 w t.1 ew t.2 sw in let z = none_like (value f t.0) b (t.3 ∙ ap not is) in omega (arith, e, z))))
      (reason_or_not f s.0 s.3))
      (λ is. others (chosen_by_enough (suc m) fs s.1 s.4 (λ w ew sw. let e = both (actual f) w (length-actual f) ew (equal_at_itself s.0 (actual f)) sw in let z = none_like (value f (actual f)) b is in omega (arith, e, z))))
      (either (truth f) b)

  pub made_of_threshold : (k : ℕ) (label : Label) (fs : Formulas) → truth (AtLeast k label fs) ≡ b → IsMadeOf reasons (is_like b) (decisive b k fs) fs (AtLeast k label fs)
  unfolding size actual
  made_of_threshold k label fs is = record {
    does = λ S c. record {
      numbers = chosen_numbers reasons (is_like b) (decisive b k fs) fs S c;
      decides = λ w e same. by_reached b k label fs w (enough_by_chosen (decisive b k fs) fs S c w e same) ∙ sym is;
    };
    chosen = λ S r. chosen_by_enough (decisive b k fs) fs S r.numbers (λ w e same. reached_by b k label fs w (r.decides w e same ∙ is));
  }

-- ---- an odd join

differ_left : (x a b : Bool) → differ x b ≡ differ a b → x ≡ a
differ_left x a b e = grind arith

differ_right : (a x b : Bool) → differ a x ≡ differ a b → x ≡ b
differ_right a x b e = grind arith

-- the first part, and the join of the others
abbrev pub two : List ℕ → Formula → Formula → Formulas
two n f g = more n f (one n g)

abbrev pub all : Formula → Bool
all f = true

module _ (label : Label) (n : List ℕ) (f : Formula) (fs : Formulas) where
  odd_reason : (S : List ℕ) → IsChosen reasons all 2 (two n f (Join Xor label fs)) S → IsReason (Join Xor label (more n f fs)) S
  unfolding size actual
  odd_reason S h = ⊎_elim
      (λ a. record {
        numbers = rw h.2 (increasing_joined 0 (size f) (size_of_parts fs) h.0 h.1 (omega arith) a.1.numbers a.2.1.numbers);
        decides = λ w e same.
            let c = cut_equal f fs h.0 h.1 a.1.numbers w e (rw (← h.2) same) in
            let here = a.1.decides (take (size f) w) c.0 c.2 in
            let there = a.2.1.decides (drop (size f) w) c.1 c.3 in
            (joins Xor label n f fs).values w ∙ cc (here, there) ∙ sym (joined_truth (joins Xor label n f fs));
      })
      (λ x. absurd (omega (arith, x.1.2)))
      h.3

  chosen_odd : (S : List ℕ) → IsReason (Join Xor label (more n f fs)) S → SomeChosen reasons all 2 (two n f (Join Xor label fs)) S
  unfolding size actual truth
  chosen_odd S h =
      let s = split 0 (size f) (size_of_parts fs) S (omega arith) h.numbers in
      let whole = λ (v w : List Bool) (ev : IsValuation f v) (ew : length w ≡ size_of_parts fs) (sv : AreEqualAt s.0 v (actual f)) (sw : AreEqualAt s.1 w (actual_of_parts fs)).
      (sym (joined_value (joins Xor label n f fs) v w ev) ∙ h.decides (v ++ w) (omega (arith, length-append v w, ev, ew)) (rw s.2 (joined_equal f fs s.0 s.1 s.3 v w ev sv sw)) ∙ joined_truth (joins Xor label n f fs)) in (
        S,
        (
          s.0,
          s.1,
          s.2,
          inl (
            refl,
            record { numbers = s.3; decides = λ v e sv. differ_left _ _ _ (whole v (actual_of_parts fs) e (length-actual_of_parts fs) sv (equal_at_itself s.1 (actual_of_parts fs))) },
            (refl, record { numbers = s.4; decides = λ w e sw. differ_right _ _ _ (whole (actual f) w (length-actual f) e (equal_at_itself s.0 (actual f)) sw) }, refl),
          ),
        ),
        λ k c. c,
      )

  pub made_of_odd : IsMadeOf reasons all 2 (two n f (Join Xor label fs)) (Join Xor label (more n f fs))
  made_of_odd = record { does = odd_reason; chosen = chosen_odd }
