-- Leaves of so many parts that are such, and the first of them.
use Rattle.std.proofs.Common.{◌≡◌, ◌≢◌, ◌⊎◌, ℕ, zero, suc, ◌+◌, ◌≤◌, List, [], ◌∷◌, ◌++◌, Bool, true, false, refl, sym, ap, subst, ◌∙◌, arith, inl, inr, ⊎_elim}
use Rattle.std.proofs.lemmas.List.Elements.{Contains-append_left}
use Rattle.predicates_core.specs.First.{AreAmong, ComesBefore, IsMinimal, IsFirst}
use Rattle.predicates_core.specs.Formula.{Formula, Formulas, one, more, one_if, size, size_of_parts}
use Rattle.predicates_core.specs.Reason.{AreIncreasing}
use Rattle.predicates_core.specs.Kinds.{Kind, Does, First}
use Rattle.predicates_core.specs.Shows.{left_share, right_share}
use Rattle.predicates_core.proofs.Numbers.{shifted, no_numbers, increasing_joined, before_joined, before_behind, before_shifted}
use Rattle.predicates_core.proofs.BothKinds.{numbers, some, strong, weak, same_list, first_of_both}
use Rattle.predicates_core.proofs.Thresholds.{many}
use Rattle.predicates_core.proofs.Shown.{left_share-joined, right_share-joined, right_share-shifted}
use Rattle.predicates_core.proofs.Turned.{among_shifted, among_front, among_back, none_among, left_among, right_among, none_of, among_both}

nothing_joined : (n : ℕ) (L R : List ℕ) → L ++ shifted n R ≡ [] → (L ≡ []) × (R ≡ [])
nothing_joined n [] [] e = (refl, refl)
nothing_joined n [] (k ∷ R) e = absurd (cc)
nothing_joined n (x ∷ L) R e = absurd (cc)

true_or_false : (x : Bool) → (x ≡ true) ⊎ (x ≡ false)
true_or_false true = inl refl
true_or_false false = inr refl

never_both : (x : Bool) → x ≡ true → x ≡ false → ⊥
never_both x e n = cc

-- leaves of the first part come before any of the others alone
before_right : (n : ℕ) (L X R : List ℕ) → AreIncreasing 0 n L → L ≢ [] → R ≢ [] → ComesBefore (L ++ X) (shifted n R)
unfolding ComesBefore AreIncreasing
before_right n [] X R h some none = absurd (some refl)
before_right n (x ∷ L) X [] h some none = absurd (none refl)
before_right n (x ∷ L) X (k ∷ R) h some none = inl (omega (arith, h.1))

-- no leaves
pub chosen_none : (n : ℕ) (L : List ℕ) → L ≡ [] → AreIncreasing 0 n L
chosen_none n L e = subst (AreIncreasing 0 n) (sym e) (no_numbers n)

abbrev pub FirstOfEach : Kind → Formulas → Type 0
FirstOfEach q (one name f) = (S : List ℕ) × First q f S
FirstOfEach q (more name f fs) = ((S : List ℕ) × First q f S) × FirstOfEach q fs

module _ (q : Kind) (such : Formula → Bool) where
  -- leaves of just m of the parts that are such, which do it for each of these, and no other leaves
  abbrev pub IsChosen : ℕ → Formulas → List ℕ → Type 0
  IsChosen zero fs S = S ≡ []
  IsChosen (suc m) (one n f) S = (such f ≡ true) × Does q f S × (m ≡ 0)
  IsChosen (suc m) (more n f fs) S = (L : List ℕ) × (R : List ℕ) × (S ≡ L ++ shifted (size f) R)
      × (((such f ≡ true) × Does q f L × IsChosen m fs R) ⊎ ((L ≡ []) × IsChosen (suc m) fs R))

  -- the first leaves of each of the first m parts that are such
  abbrev pub IsSelected : ℕ → Formulas → List ℕ → Type 0
  IsSelected zero fs S = S ≡ []
  IsSelected (suc m) (one n f) S = (such f ≡ true) × First q f S × (m ≡ 0)
  IsSelected (suc m) (more n f fs) S = (L : List ℕ) × (R : List ℕ) × (S ≡ L ++ shifted (size f) R)
      × (((such f ≡ true) × First q f L × IsSelected m fs R) ⊎ ((such f ≡ false) × (L ≡ []) × IsSelected (suc m) fs R))

  -- where so many are such, there is a selection
  pub selected : (m : ℕ) (fs : Formulas) → FirstOfEach q fs → m ≤ many such fs → (S : List ℕ) × IsSelected m fs S
  selected zero fs x h = ([], refl)
  selected (suc m) (one n f) x h = ⊎_elim
      (λ is. let o = ap one_if is in (x.0, (is, x.1, omega (arith, h, o))))
      (λ is. absurd (let o = ap one_if is in omega (arith, h, o)))
      (true_or_false (such f))
  selected (suc m) (more n f fs) x h = ⊎_elim
      (λ is.
      let o = ap one_if is in
      let rest = selected m fs x.1 (omega (arith, h, o)) in
      (x.0.0 ++ shifted (size f) rest.0, (x.0.0, rest.0, refl, inl (is, x.0.1, rest.1))))
      (λ is.
      let o = ap one_if is in
      let rest = selected (suc m) fs x.1 (omega (arith, h, o)) in
      (shifted (size f) rest.0, ([], rest.0, refl, inr (is, refl, rest.1))))
      (true_or_false (such f))

  chosen_some : (m : ℕ) (fs : Formulas) (S : List ℕ) → S ≡ [] → IsChosen (suc m) fs S → ⊥
  chosen_some m (one n f) S e h = some q f S h.1 e
  chosen_some m (more n f fs) S e h =
      let none = nothing_joined (size f) h.0 h.1 (sym h.2 ∙ e) in
      ⊎_elim (λ a. some q f h.0 a.1 none.0) (λ c. chosen_some m fs h.1 none.1 c.1) h.3

  pub chosen_numbers : (m : ℕ) (fs : Formulas) (S : List ℕ) → IsChosen m fs S → AreIncreasing 0 (size_of_parts fs) S
  unfolding size
  chosen_numbers zero fs S e = chosen_none (size_of_parts fs) S e
  chosen_numbers (suc m) (one n f) S h = numbers q f S h.1
  chosen_numbers (suc m) (more n f fs) S h = subst (AreIncreasing 0 (size f + size_of_parts fs)) (sym h.2) (⊎_elim
      (λ a. increasing_joined 0 (size f) (size_of_parts fs) h.0 h.1 (omega arith) (numbers q f h.0 a.1) (chosen_numbers m fs h.1 a.2))
      (λ c. increasing_joined 0 (size f) (size_of_parts fs) h.0 h.1 (omega arith) (chosen_none (size f) h.0 c.0) (chosen_numbers (suc m) fs h.1 c.1))
      h.3)

  -- the leaves of the first part
  left_numbers : (m : ℕ) (f : Formula) (fs : Formulas) (L R : List ℕ) → (((such f ≡ true) × Does q f L × IsChosen m fs R) ⊎ ((L ≡ []) × IsChosen (suc m) fs R)) → AreIncreasing 0 (size f) L
  left_numbers m f fs L R h = ⊎_elim (λ a. numbers q f L a.1) (λ c. chosen_none (size f) L c.0) h

  -- who has leaves of some of the parts of another selects no more of them
  no_more_parts : (k m : ℕ) (fs : Formulas) (S T : List ℕ) → IsChosen k fs S → IsChosen m fs T → AreAmong S T → k ≤ m
  no_more_parts zero m fs S T h g among = omega arith
  no_more_parts (suc k) zero fs S T h g among = absurd (chosen_some k fs S (none_among S (subst (AreAmong S) g among)) h)
  no_more_parts (suc k) (suc m) (one n f) S T h g among = omega (arith, h.2)
  no_more_parts (suc k) (suc m) (more n f fs) S T h g among =
      let il = left_numbers k f fs h.0 h.1 h.3 in
      let ig = left_numbers m f fs g.0 g.1 g.3 in
      let within : AreAmong (h.0 ++ shifted (size f) h.1) (g.0 ++ shifted (size f) g.1) = rw (← h.2, ← g.2) among in
      let left : AreAmong h.0 g.0 = left_among (size f) (size_of_parts fs) g.0 g.1 h.0 h.1 ig il within in
      let right : AreAmong h.1 g.1 = right_among (size f) (size_of_parts fs) g.0 g.1 h.0 h.1 ig il within in
      ⊎_elim
      (λ a. ⊎_elim
      (λ c. let ih = no_more_parts k m fs h.1 g.1 a.2 c.2 right in omega (arith, ih))
      (λ c. absurd (some q f h.0 a.1 (none_among h.0 (subst (AreAmong h.0) c.0 left))))
      g.3)
      (λ a. ⊎_elim
      (λ c. let ih = no_more_parts (suc k) m fs h.1 g.1 a.1 c.2 right in omega (arith, ih))
      (λ c. no_more_parts (suc k) (suc m) fs h.1 g.1 a.1 c.1 right)
      g.3)
      h.3

  of_none : (fs : Formulas) (S : List ℕ) → S ≡ [] → IsFirst (IsMinimal (IsChosen zero fs)) S
  of_none fs S e = record {
    is = record { is = e; has_no_less = λ other h among. h ∙ sym e };
    before_others = λ other h d. absurd (d (h.is ∙ sym e));
  }

  of_one : (m : ℕ) (n : List ℕ) (f : Formula) (S : List ℕ) → such f ≡ true → m ≡ 0 → IsFirst (IsMinimal (Does q f)) S → IsFirst (IsMinimal (IsChosen (suc m) (one n f))) S
  of_one m n f S is none h = record {
    is = record { is = (is, h.is.is, none); has_no_less = λ other g among. h.is.has_no_less other g.1 among };
    before_others = λ other g d. h.before_others other (record { is = g.is.1; has_no_less = λ less c among. g.has_no_less less (is, c, none) among }) d;
  }

  module _ (m : ℕ) (n : List ℕ) (f : Formula) (fs : Formulas) where
    join_both : (M R : List ℕ) → such f ≡ true → Does q f M → IsChosen m fs R → IsChosen (suc m) (more n f fs) (M ++ shifted (size f) R)
    join_both M R is d c = (M, R, refl, inl (is, d, c))

    join_right : (R : List ℕ) → IsChosen (suc m) fs R → IsChosen (suc m) (more n f fs) (shifted (size f) R)
    join_right R c = ([], R, refl, inr (refl, c))

    -- the first part is one of those
    with_first : (L T : List ℕ) → such f ≡ true → IsFirst (IsMinimal (Does q f)) L → IsFirst (IsMinimal (IsChosen m fs)) T → IsFirst (IsMinimal (IsChosen (suc m) (more n f fs))) (L ++ shifted (size f) T)
    with_first L T is hl ht = record {
      is = record {
        is = join_both L T is hl.is.is ht.is.is;
        has_no_less = λ other g among.
            let ig = left_numbers m f fs g.0 g.1 g.3 in
            let il = numbers q f L hl.is.is in
            let within : AreAmong (g.0 ++ shifted (size f) g.1) (L ++ shifted (size f) T) = rw (← g.2) among in
            let left = left_among (size f) (size_of_parts fs) L T g.0 g.1 il ig within in
            let right = right_among (size f) (size_of_parts fs) L T g.0 g.1 il ig within in
            g.2 ∙ ⊎_elim
            (λ a. cc (hl.is.has_no_less g.0 a.1 left, ht.is.has_no_less g.1 a.2 right))
            (λ c. absurd (let more_parts = no_more_parts (suc m) m fs g.1 T c.1 ht.is.is right in omega (arith, more_parts)))
            g.3;
      };
      before_others = λ other g d. subst (ComesBefore (L ++ shifted (size f) T)) (sym g.is.2) (⊎_elim
          (λ a. compare g.is.0 g.is.1 a.1 a.2 (subst (IsMinimal (IsChosen (suc m) (more n f fs))) g.is.2 g) (λ e. d (g.is.2 ∙ e)))
          (λ c. subst (λ z. ComesBefore (L ++ shifted (size f) T) (z ++ shifted (size f) g.is.1)) (sym c.0)
          (before_right (size f) L (shifted (size f) T) g.is.1 (numbers q f L hl.is.is) (some q f L hl.is.is) (λ e. chosen_some m fs g.is.1 e c.1)))
          g.is.3);
    }
      where
        compare : (M R : List ℕ) → Does q f M → IsChosen m fs R → IsMinimal (IsChosen (suc m) (more n f fs)) (M ++ shifted (size f) R) → M ++ shifted (size f) R ≢ L ++ shifted (size f) T → ComesBefore (L ++ shifted (size f) T) (M ++ shifted (size f) R)
        compare M R dm cr min differ =
            let im = numbers q f M dm in
            let minimal_left : IsMinimal (Does q f) M = record {
              is = dm;
              has_no_less = λ less d among.
                  let same : less ++ shifted (size f) R ≡ M ++ shifted (size f) R = min.has_no_less (less ++ shifted (size f) R) (join_both less R is d cr) (among_front less M (shifted (size f) R) among) in
                  sym (left_share-joined 0 (size f) less R (numbers q f less d)) ∙ ap (left_share (size f)) same ∙ left_share-joined 0 (size f) M R im;
            } in
            let minimal_right : IsMinimal (IsChosen m fs) R = record {
              is = cr;
              has_no_less = λ less c among.
                  let same : M ++ shifted (size f) less ≡ M ++ shifted (size f) R = min.has_no_less (M ++ shifted (size f) less) (join_both M less is dm c) (among_back M (shifted (size f) less) (shifted (size f) R) (among_shifted (size f) less R among)) in
                  sym (right_share-joined 0 (size f) M less im) ∙ ap (right_share (size f)) same ∙ right_share-joined 0 (size f) M R im;
            } in
            elim (same_list M L) [
              | yes same ↦ rw same (before_behind L (shifted (size f) T) (shifted (size f) R) (before_shifted (size f) T R (ht.before_others R minimal_right (λ e. differ (cc (same, e))))))
              | no other ↦ before_joined L M (shifted (size f) T) (shifted (size f) R) (hl.before_others M minimal_left other) (λ k rest e. other (sym (minimal_left.has_no_less L hl.is.is (λ i a. rw e (Contains-append_left L (k ∷ rest) i a)))))
            ]

    -- the first part is none of those
    without_first : (T : List ℕ) → such f ≡ false → IsFirst (IsMinimal (IsChosen (suc m) fs)) T → IsFirst (IsMinimal (IsChosen (suc m) (more n f fs))) (shifted (size f) T)
    without_first T is ht = record {
      is = record {
        is = join_right T ht.is.is;
        has_no_less = λ other g among. ⊎_elim
            (λ a. absurd (never_both (such f) a.0 is))
            (λ c.
            let none : other ≡ shifted (size f) g.1 = g.2 ∙ ap (λ z. z ++ shifted (size f) g.1) c.0 in
            let within : AreAmong ([] ++ shifted (size f) g.1) ([] ++ shifted (size f) T) = rw (← none) among in
            none ∙ ap (shifted (size f)) (ht.is.has_no_less g.1 c.1 (right_among (size f) (size_of_parts fs) [] T [] g.1 (no_numbers (size f)) (no_numbers (size f)) within)))
            g.3;
      };
      before_others = λ other g d. ⊎_elim
          (λ a. absurd (never_both (such f) a.0 is))
          (λ c.
          let none : other ≡ shifted (size f) g.is.1 = g.is.2 ∙ ap (λ z. z ++ shifted (size f) g.is.1) c.0 in
          let minimal : IsMinimal (IsChosen (suc m) fs) g.is.1 = record {
            is = c.1;
            has_no_less = λ less h among.
                let same : shifted (size f) less ≡ shifted (size f) g.is.1 = g.has_no_less (shifted (size f) less) (join_right less h) (λ k a. rw none (among_shifted (size f) less g.is.1 among k a)) ∙ none in
                sym (right_share-shifted (size f) less) ∙ ap (right_share (size f)) same ∙ right_share-shifted (size f) g.is.1;
          } in
          subst (ComesBefore (shifted (size f) T)) (sym none) (before_shifted (size f) T g.is.1 (ht.before_others g.is.1 minimal (λ e. d (none ∙ ap (shifted (size f)) e)))))
          g.is.3;
    }

  -- some of the leaves are chosen
  abbrev pub SomeChosen : ℕ → Formulas → List ℕ → Type 0
  SomeChosen m fs S = (T : List ℕ) × IsChosen m fs T × AreAmong T S

  module _ (m : ℕ) (n : List ℕ) (f : Formula) (fs : Formulas) (S L R : List ℕ) (e : S ≡ L ++ shifted (size f) R) where
    pub chosen_others : SomeChosen (suc m) fs R → SomeChosen (suc m) (more n f fs) S
    chosen_others x = (shifted (size f) x.0, join_right m n f fs x.0 x.1, subst (AreAmong (shifted (size f) x.0)) (sym e) (among_both (size f) [] L x.0 R (none_of L) x.2))

    pub chosen_both : such f ≡ true → Does q f L → SomeChosen m fs R → SomeChosen (suc m) (more n f fs) S
    chosen_both is d x = (L ++ shifted (size f) x.0, join_both m n f fs L x.0 is d x.1, subst (AreAmong (L ++ shifted (size f) x.0)) (sym e) (among_both (size f) L L x.0 R (λ k c. c) x.2))

  -- of all minimal ones of m parts the first is that of the first m parts that are such, each by its
  -- own first leaves
  pub first_selected : (m : ℕ) (fs : Formulas) (S : List ℕ) → IsSelected m fs S → IsFirst (IsMinimal (IsChosen m fs)) S
  first_selected zero fs S e = of_none fs S e
  first_selected (suc m) (one n f) S h = of_one m n f S h.0 h.2 (strong q f S h.1)
  first_selected (suc m) (more n f fs) S h = subst (IsFirst (IsMinimal (IsChosen (suc m) (more n f fs)))) (sym h.2) (⊎_elim
      (λ a. with_first m n f fs h.0 h.1 a.0 (strong q f h.0 a.1) (first_selected m fs h.1 a.2))
      (λ c. subst (λ z. IsFirst (IsMinimal (IsChosen (suc m) (more n f fs))) (z ++ shifted (size f) h.1)) (sym c.1) (without_first m n f fs h.1 c.0 (first_selected (suc m) fs h.1 c.2)))
      h.3)

  -- the leaves that do it for the whole are just those of m such parts, and more
  pub record IsMadeOf (m : ℕ) (fs : Formulas) (g : Formula) : Type 0 where
    pub does : (S : List ℕ) → IsChosen m fs S → Does q g S
    pub chosen : (S : List ℕ) → Does q g S → SomeChosen m fs S

  -- so its first leaves are those of the first m such parts
  pub first_made : (m : ℕ) (fs : Formulas) (g : Formula) → IsMadeOf m fs g → (S : List ℕ) → IsSelected m fs S → First q g S
  first_made m fs g made S h = weak q g S (first_of_both (size g) (IsChosen m fs) (Does q g) (numbers q g) made.does made.chosen S (first_selected m fs S h))
