-- The changes of a threshold and of an odd join are those of so many parts.
use Rattle.std.proofs.Common.{◌≡◌, ℕ, zero, suc, ◌+◌, ◌-◌, ◌≤◌, List, [], ◌++◌, Bool, true, refl, sym, ap, subst, ◌∙◌, arith, ⊎_elim}
use Rattle.std.specs.Prelude.{not}
use mathlib.Core.Bool.{beq}
use Rattle.predicates_core.specs.Label.{Label}
use Rattle.predicates_core.specs.declared.custom.join.Operator.TheVariants.{Xor}
use Rattle.predicates_core.specs.Formula.{Formula, Formulas, one, more, Join, AtLeast, one_if, differ, size, size_of_parts, value, actual, actual_of_parts, truth}
use Rattle.predicates_core.specs.Reason.{AreIncreasing}
use Rattle.predicates_core.specs.Kinds.{turned, IsChange, changes}
use Rattle.predicates_core.specs.Change.{EachMeetsEach}
use Rattle.predicates_core.proofs.Numbers.{shifted, split, increasing_joined}
use Rattle.predicates_core.proofs.Joins.{joins, joined_value, joined_truth, length-actual}
use Rattle.predicates_core.proofs.Values.{not-not, beq_same, same_truths}
use Rattle.predicates_core.proofs.BothKinds.{never_turned}
use Rattle.predicates_core.proofs.Selection.{IsChosen, chosen_numbers, SomeChosen, IsMadeOf, chosen_others, chosen_both, chosen_none}
use Rattle.predicates_core.proofs.Reasons.{two, all}
use Rattle.predicates_core.proofs.Thresholds.{like, like_all, is_like, either, one_like, none_like, one_at_most, like_by_one, like_joined, like-actual, decisive, decisive_all, by_reached, reached_by}
use Rattle.predicates_core.proofs.Turned.{none_of, length-turned, turned-append, turned-left, turned-right, some_turned}

-- a change turns a leaf of each reason: where all of one's stay, the truth does
pub each_meets_each : EachMeetsEach
each_meets_each f reason change h c = ⊎_elim
    (λ common. common)
    (λ same. absurd (never_turned (truth f) (sym (h.decides (turned change (actual f)) (length-turned change (actual f) ∙ length-actual f) same) ∙ c.turns)))
    (some_turned reason change (actual f))

turned_joined : (f : Formula) (fs : Formulas) (L R : List ℕ) → AreIncreasing 0 (size f) L → turned (L ++ shifted (size f) R) (actual f ++ actual_of_parts fs) ≡ turned L (actual f) ++ turned R (actual_of_parts fs)
turned_joined f fs L R il =
    turned-append L (shifted (size f) R) (actual f ++ actual_of_parts fs)
    ∙ ap (turned (shifted (size f) R)) (turned-left 0 L (actual f) (actual_of_parts fs) (rw (length-actual f) il))
    ∙ turned-right (size f) R (turned L (actual f)) (actual_of_parts fs) (length-turned L (actual f) ∙ length-actual f)

-- what the formula's truth becomes where the leaves turn
abbrev after : Formula → List ℕ → Bool
after f S = value f (turned S (actual f))

nothing_after : (f : Formula) (L : List ℕ) → L ≡ [] → after f L ≡ truth f
unfolding turned truth
nothing_after f L e = ap (after f) e

-- ---- a threshold

module _ (b : Bool) where
  -- how many of the parts have the other truth, and how many have it where the leaves turn
  abbrev others : Formulas → ℕ
  others fs = like (not b) fs (actual_of_parts fs)

  abbrev others_after : Formulas → List ℕ → ℕ
  others_after fs S = like (not b) fs (turned S (actual_of_parts fs))

  after_both : (n : List ℕ) (f : Formula) (fs : Formulas) (L R : List ℕ) → AreIncreasing 0 (size f) L → others_after (more n f fs) (L ++ shifted (size f) R) ≡ one_if (beq (after f L) (not b)) + others_after fs R
  unfolding actual
  after_both n f fs L R il = ap (like (not b) (more n f fs)) (turned_joined f fs L R il)
      ∙ like_joined (not b) n f fs (turned L (actual f)) (turned R (actual_of_parts fs)) (length-turned L (actual f) ∙ length-actual f)

  -- a part with the truth has not the other, and where it turns it has
  turned_part : (f : Formula) (S : List ℕ) → is_like b f ≡ true → IsChange f S → (one_if (beq (after f S) (not b)) ≡ 1) × (one_if (beq (truth f) (not b)) ≡ 0)
  turned_part f S is c =
      let e = same_truths (truth f) b is in
      (one_like (after f S) (not b) (c.turns ∙ ap not e), none_like (truth f) (not b) (e ∙ sym (not-not b)))

  after_nothing : (fs : Formulas) (S : List ℕ) → S ≡ [] → others_after fs S ≡ others fs + 0
  unfolding turned
  after_nothing fs S e = subst (λ z. others_after fs z ≡ others fs + 0) (sym e) (omega arith)

  after_chosen : (m : ℕ) (fs : Formulas) (S : List ℕ) → IsChosen changes (is_like b) m fs S → others_after fs S ≡ others fs + m
  unfolding size actual truth
  after_chosen zero fs S e = after_nothing fs S e
  after_chosen (suc m) (one n f) S h = let t = turned_part f S h.0 h.1 in omega (arith, t.0, t.1, h.2)
  after_chosen (suc m) (more n f fs) S h =
      let e = like-actual (not b) n f fs in
      ap (others_after (more n f fs)) h.2 ∙ ⊎_elim
      (λ a.
      let p = turned_part f h.0 a.0 a.1 in
      let ih = after_chosen m fs h.1 a.2 in
      let t = after_both n f fs h.0 h.1 a.1.numbers in
      omega (arith, e, p.0, p.1, ih, t))
      (λ c.
      let same = ap (λ z. one_if (beq z (not b))) (nothing_after f h.0 c.0) in
      let ih = after_chosen (suc m) fs h.1 c.1 in
      let t = after_both n f fs h.0 h.1 (chosen_none (size f) h.0 c.0) in
      omega (arith, e, same, ih, t))
      h.3

  -- among leaves that bring m parts more to the other truth are some that are chosen of so many
  chosen_by_turned : (m : ℕ) (fs : Formulas) (S : List ℕ) → AreIncreasing 0 (size_of_parts fs) S → others fs + m ≤ others_after fs S → SomeChosen changes (is_like b) m fs S
  unfolding size actual truth
  chosen_by_turned zero fs S i h = ([], refl, none_of S)
  chosen_by_turned (suc m) (one n f) S i h =
      let o = one_at_most (after f S) (not b) in
      let is : truth f ≡ b = ⊎_elim (λ e. e) (λ d. absurd (let x = one_like (value f (actual f)) (not b) d in omega (arith, h, o, x))) (either (truth f) b) in
      let turns : after f S ≡ not b = like_by_one (after f S) (not b) (omega (arith, h)) in
      (S, (beq_same (truth f) b is, record { numbers = i; turns = turns ∙ ap not (sym is) }, omega (arith, h, o)), λ k c. c)
  chosen_by_turned (suc m) (more n f fs) S i h =
      let s = split 0 (size f) (size_of_parts fs) S (omega arith) i in
      let e = like-actual (not b) n f fs in
      let t = after_both n f fs s.0 s.1 s.3 in
      let h' : others (more n f fs) + suc m ≤ others_after (more n f fs) (s.0 ++ shifted (size f) s.1) = subst (λ z. others (more n f fs) + suc m ≤ others_after (more n f fs) z) s.2 h in
      let without = chosen_others changes (is_like b) m n f fs S s.0 s.1 s.2 in
      let o = one_at_most (after f s.0) (not b) in
      ⊎_elim
      (λ is. ⊎_elim
      (λ stays. let z = none_like (after f s.0) (not b) (stays ∙ sym (not-not b)) in without (chosen_by_turned (suc m) fs s.1 s.4 (omega (arith, h', e, t, z))))
      (λ turns.
      let z = none_like (truth f) (not b) (is ∙ sym (not-not b)) in
      chosen_both changes (is_like b) m n f fs S s.0 s.1 s.2 (beq_same (truth f) b is) (record { numbers = s.3; turns = turns ∙ ap not (sym is) }) (chosen_by_turned m fs s.1 s.4 (omega (arith, h', e, t, o, z))))
      (either (after f s.0) b))
      (λ is. let z = one_like (truth f) (not b) is in without (chosen_by_turned (suc m) fs s.1 s.4 (omega (arith, h', e, t, o, z))))
      (either (truth f) b)

  -- as many as are one too many for the other truth
  abbrev pub turning : ℕ → Formulas → ℕ
  turning k fs = suc (like b fs (actual_of_parts fs)) - decisive b k fs

  module _ (k : ℕ) (label : Label) (fs : Formulas) (is : truth (AtLeast k label fs) ≡ b) where
    number : decisive (not b) k fs ≡ others fs + turning k fs
    unfolding actual truth
    number =
        let all = like_all b fs (actual_of_parts fs) in
        let both = decisive_all b k fs in
        let enough = reached_by b k label fs (actual_of_parts fs) is in
        omega (arith, all, both, enough)

    pub made_of_threshold : IsMadeOf changes (is_like b) (turning k fs) fs (AtLeast k label fs)
    unfolding size actual
    made_of_threshold = record {
      does = λ S c. let e = after_chosen (turning k fs) fs S c in record {
        numbers = chosen_numbers changes (is_like b) (turning k fs) fs S c;
        turns = by_reached (not b) k label fs (turned S (actual_of_parts fs)) (omega (arith, e, number)) ∙ ap not (sym is);
      };
      chosen = λ S c. let e = reached_by (not b) k label fs (turned S (actual_of_parts fs)) (c.turns ∙ ap not is) in chosen_by_turned (turning k fs) fs S c.numbers (omega (arith, e, number));
    }

-- ---- an odd join

differ_turned : (a b : Bool) → differ (not a) b ≡ not (differ a b)
differ_turned a b = grind arith

differ_other : (a b : Bool) → differ a (not b) ≡ not (differ a b)
differ_other a b = grind arith

other_turned : (a b c : Bool) → differ a b ≡ not (differ a c) → b ≡ not c
other_turned a b c e = grind arith

module _ (label : Label) (n : List ℕ) (f : Formula) (fs : Formulas) where
  after_odd : (L R : List ℕ) → AreIncreasing 0 (size f) L → after (Join Xor label (more n f fs)) (L ++ shifted (size f) R) ≡ differ (after f L) (after (Join Xor label fs) R)
  unfolding actual
  after_odd L R il = ap (value (Join Xor label (more n f fs))) (turned_joined f fs L R il)
      ∙ joined_value (joins Xor label n f fs) (turned L (actual f)) (turned R (actual_of_parts fs)) (length-turned L (actual f) ∙ length-actual f)

  turned_odd : (S L R : List ℕ) → S ≡ L ++ shifted (size f) R → AreIncreasing 0 (size f) L → AreIncreasing 0 (size_of_parts fs) R → differ (after f L) (after (Join Xor label fs) R) ≡ not (differ (truth f) (truth (Join Xor label fs))) → IsChange (Join Xor label (more n f fs)) S
  unfolding size
  turned_odd S L R e il ir turns = record {
    numbers = rw e (increasing_joined 0 (size f) (size_of_parts fs) L R (omega arith) il ir);
    turns = ap (after (Join Xor label (more n f fs))) e ∙ after_odd L R il ∙ turns ∙ ap not (sym (joined_truth (joins Xor label n f fs)));
  }

  odd_change : (S : List ℕ) → IsChosen changes all 1 (two n f (Join Xor label fs)) S → IsChange (Join Xor label (more n f fs)) S
  unfolding size
  odd_change S h = ⊎_elim
      (λ a. turned_odd S h.0 h.1 h.2 a.1.numbers (chosen_none (size_of_parts fs) h.1 a.2) (cc (a.1.turns, nothing_after (Join Xor label fs) h.1 a.2, differ_turned (truth f) (truth (Join Xor label fs)))))
      (λ x. turned_odd S h.0 h.1 h.2 (chosen_none (size f) h.0 x.0) x.1.1.numbers (cc (x.1.1.turns, nothing_after f h.0 x.0, differ_other (truth f) (truth (Join Xor label fs)))))
      h.3

  chosen_turned : (S : List ℕ) → IsChange (Join Xor label (more n f fs)) S → SomeChosen changes all 1 (two n f (Join Xor label fs)) S
  unfolding size
  chosen_turned S h =
      let s = split 0 (size f) (size_of_parts fs) S (omega arith) h.numbers in
      let turns : differ (after f s.0) (after (Join Xor label fs) s.1) ≡ not (differ (truth f) (truth (Join Xor label fs))) =
      sym (after_odd s.0 s.1 s.3) ∙ ap (after (Join Xor label (more n f fs))) (sym s.2) ∙ h.turns ∙ ap not (joined_truth (joins Xor label n f fs)) in
      ⊎_elim
      (λ same. chosen_others changes all 0 n f (one n (Join Xor label fs)) S s.0 s.1 s.2
      (s.1, (refl, record { numbers = s.4; turns = other_turned (truth f) (after (Join Xor label fs) s.1) (truth (Join Xor label fs)) (cc (same, turns)) }, refl), λ k c. c))
      (λ other. chosen_both changes all 0 n f (one n (Join Xor label fs)) S s.0 s.1 s.2 refl (record { numbers = s.3; turns = other }) ([], refl, none_of s.1))
      (either (after f s.0) (truth f))

  pub made_of_odd : IsMadeOf changes all 1 (two n f (Join Xor label fs)) (Join Xor label (more n f fs))
  made_of_odd = record { does = odd_change; chosen = chosen_turned }
