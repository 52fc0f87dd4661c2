-- How many of a list hold, and the verdict of what holds where as many of them do as have to.
use Rattle.std.proofs.Common.{◌≡◌, ◌⊎◌, ℕ, zero, suc, ◌+◌, ◌-◌, ◌<◌, ◌≤◌, Bool, true, false, List, [], ◌∷◌, ◌++◌, Some, None, length, take, get_or, refl, sym, ap, ◌∙◌, subst, arith, inl, inr, ⊎_elim}
use Rattle.std.specs.Prelude.{not, ◌==◌, ◌%◌, nat_le, nat_lt, cond}
use Rattle.std.proofs.lemmas.Bool.{cases_lt}
use Rattle.std.proofs.lemmas.Bool.Decides.{nat_tests}
use Rattle.std.proofs.lemmas.List.{take_more, take_all, length-take-le}
use Rattle.predicates_core.specs.Label.{Label, Entry, plain}
use Rattle.predicates_core.specs.declared.custom.join.Operator.TheVariants.{Xor}
use Rattle.predicates_core.specs.Formula.{Formula, Formulas, one, more, Join, differ, one_if, truth, HasTruth}
use Rattle.predicates_core.specs.HowMany.{least_of}
use Rattle.predicates_core.specs.declared.custom.quantifier.HowMany.{HowMany}
use Rattle.predicates_core.specs.Several.{AreOfEach}
use Rattle.predicates_core.specs.Thresholds.{IsOfThreshold}
use Rattle.predicates_core.proofs.Values.{truth-one, truth-more}
use Rattle.predicates_core.proofs.Leaves.{HasTruth-exactly}
use Rattle.predicates_core.proofs.ThresholdCases.{Among, among_all, HasTruth-among, HasTruth-settled}
use Rattle.predicates_core.proofs.Fewer.{truth_of_fewer}
use Rattle.predicates_tree.specs.declared.quota.Quota.{Quota}
use Rattle.predicates_tree.specs.declared.quota.Quota.TheVariants.{Threshold, Odd}
use Rattle.predicates_tree.specs.Quotas.{meets, decided_at, decided, IsOfQuota}
use Rattle.predicates_tree.specs.QuotaLaws.{settled_or_not}

odd_suc : (n : ℕ) → (suc n % 2 == 1) ≡ not (n % 2 == 1)
odd_suc n = ⊎_elim
    (λ even. let e : n % 2 ≡ 0 = omega (arith, even) in let o : suc n % 2 ≡ 1 = omega (arith, e) in rw (e, o) refl)
    (λ odd. let o : n % 2 ≡ 1 = omega (arith, odd) in let e : suc n % 2 ≡ 0 = omega (arith, o) in rw (e, o) refl)
    (cases_lt (n % 2) 1)

le_told : (k m : ℕ) → nat_le k m ≡ true → k ≤ m
le_told k m e = grind (arith, nat_tests)

lt_told : (k m : ℕ) → nat_lt k m ≡ true → k < m
lt_told k m e = grind (arith, nat_tests)

told_by : (x y b : Bool) → cond x (Some true) (cond y (Some false) None) ≡ Some b → ((b ≡ true) × (x ≡ true)) ⊎ ((b ≡ false) × (y ≡ true))
told_by true y b e = let is : Some true ≡ Some b = e in inl (cc, refl)
told_by false true b e = let is : Some false ≡ Some b = e in inr (cc, refl)
told_by false false b e = let is : None ≡ Some b = e in absurd (cc)

-- what is no odd number is a threshold
pub of_threshold : {U : Type 0} (many : HowMany) (text : Entry) (name : List ℕ) (has : U → Formula → Type 0) (us : List U) (f : Formula) → IsOfQuota (Threshold many) text name has us f → IsOfThreshold (least_of many (length us)) text name has us f
of_threshold many text name has us f p = record {
  of_settled = p.of_number.of_settled;
  of_counted = λ some within. let o = p.of_number.of_counted some within in record { formulas = o.formulas; of_each = o.of_each; is = o.is };
}

module _ {U : Type 0} (has : U → Formula → Type 0) where
  -- m of them hold, and the others do not
  abbrev pub Counted : List U → ℕ → Type 0
  Counted [] m = m ≡ 0
  Counted (u ∷ us) m = ((n : ℕ) × (m ≡ suc n) × HasTruth (has u) true × Counted us n) ⊎ (HasTruth (has u) false × Counted us m)

  counted_last : (us : List U) (m : ℕ) (u : U) (b : Bool) → Counted us m → HasTruth (has u) b → Counted (us ++ u ∷ []) (m + one_if b)
  counted_last [] m u true c h = inl (0, omega (arith, c), h, refl)
  counted_last [] m u false c h = inr (h, omega (arith, c))
  counted_last (v ∷ us) m u b c h = ⊎_elim
      (λ x. inl (x.0 + one_if b, omega (arith, x.1), x.2, counted_last us x.0 u b x.3 h))
      (λ y. inr (y.0, counted_last us m u b y.1 h))
      c

  -- of one more
  pub counted_more : (us : List U) (k m n : ℕ) (u : U) (b : Bool) → k < length us → u ≡ get_or us k u → Counted (take k us) m → HasTruth (has u) b → n ≡ m + one_if b → Counted (take (k + 1) us) n
  counted_more us k m n u b within is c h e = subst (λ z. Counted z n) (ap (λ z. take k us ++ z ∷ []) is ∙ sym (take_more us k u within)) (subst (Counted (take k us ++ u ∷ [])) (sym e) (counted_last (take k us) m u b c h))

  pub counted_within : (us : List U) (m : ℕ) → Counted us m → m ≤ length us
  counted_within [] m c = omega (arith, c)
  counted_within (u ∷ us) m c = ⊎_elim
      (λ x. let ih = counted_within us x.0 x.3 in omega (arith, ih, x.1))
      (λ y. let ih = counted_within us m y.1 in omega (arith, ih))
      c

  among_held : (us : List U) (m n : ℕ) → n ≤ m → Counted us m → Among true has us n
  among_held us m zero h c = tt
  among_held [] m (suc n) h c = absurd (omega (arith, h, c))
  among_held (u ∷ us) m (suc n) h c = ⊎_elim
      (λ x. inl (x.2, among_held us x.0 n (omega (arith, h, x.1)) x.3))
      (λ y. inr (among_held us m (suc n) h y.1))
      c

  among_failed : (us : List U) (m n : ℕ) → n + m ≤ length us → Counted us m → Among false has us n
  among_failed us m zero h c = tt
  among_failed [] m (suc n) h c = absurd (omega (arith, h))
  among_failed (u ∷ us) m (suc n) h c = ⊎_elim
      (λ x. inr (among_failed us x.0 (suc n) (omega (arith, h, x.1)) x.3))
      (λ y. inl (y.0, among_failed us m n (omega (arith, h)) y.1))
      c

  -- enough of the first j hold, or too few can
  module _ (text : Entry) (name : List ℕ) (us : List U) (j m : ℕ) (within : j ≤ length us) (c : Counted (take j us) m) where
    threshold_met : (k : ℕ) → k ≤ m → HasTruth (IsOfThreshold k text name has us) true
    threshold_met k h =
        let short : m ≤ length (take j us) = counted_within (take j us) m c in
        let front : length (take j us) ≡ j = length-take-le j us within in
        ⊎_elim
        (λ s. HasTruth-settled true has k s (let e : k ≤ length us = omega (arith, h, short, front, within) in grind (arith, nat_tests)))
        (λ w. HasTruth-among true has k w.0 w.1 (among_all true has us j k (among_held (take j us) m k h c)))
        (settled_or_not k (length us))

    threshold_missed : (k : ℕ) → length us - j + m < k → HasTruth (IsOfThreshold k text name has us) false
    threshold_missed k h =
        let short : m ≤ length (take j us) = counted_within (take j us) m c in
        let front : length (take j us) ≡ j = length-take-le j us within in
        ⊎_elim
        (λ s. HasTruth-settled false has k s (⊎_elim (λ e. absurd (omega (arith, h, e))) (λ few. grind (arith, nat_tests, few)) s))
        (λ w. HasTruth-among false has k w.0 w.1 (among_all false has us j (suc (length us) - k) (among_failed (take j us) m (suc (length us) - k) (omega (arith, h, short, front, within, w.1)) c)))
        (settled_or_not k (length us))

    threshold_decided : (k : ℕ) (b : Bool) → decided_at k (length us) j m ≡ Some b → HasTruth (IsOfThreshold k text name has us) b
    threshold_decided k b e = ⊎_elim
        (λ met. let enough : k ≤ m = le_told k m met.1 in subst (HasTruth (IsOfThreshold k text name has us)) (sym met.0) (threshold_met k enough))
        (λ missed. let few : length us - j + m < k = lt_told (length us - j + m) k missed.1 in subst (HasTruth (IsOfThreshold k text name has us)) (sym missed.0) (threshold_missed k few))
        (told_by (nat_le k m) (nat_lt (length us - j + m) k) b e)

    pub decided_truth : (q : Quota) (b : Bool) → decided q (length us) j m ≡ Some b → HasTruth (IsOfQuota q text name has us) b
    decided_truth (Threshold many) b e = truth_of_fewer (of_threshold many text name has us) (threshold_decided (least_of many (length us)) b e)
    decided_truth Odd b e = absurd (cc)

  -- ---- where all are counted

  module _ (text : Entry) (name : List ℕ) where
    odd_truth : (label : Label) (us : List U) (fs : Formulas) (m : ℕ) → AreOfEach name has us fs → Counted us m → truth (Join Xor label fs) ≡ (m % 2 == 1)
    odd_truth label [] fs m of c = absurd of
    odd_truth label (u ∷ us) (one n f) m of c = ⊎_elim
        (λ x. let none : x.0 ≡ 0 = nothing us x.0 of.2 x.3 in let e : m ≡ 1 = omega (arith, none, x.1) in truth-one Xor label n f ∙ x.2.at f of.1 ∙ rw e refl)
        (λ y. let none : m ≡ 0 = nothing us m of.2 y.1 in truth-one Xor label n f ∙ y.0.at f of.1 ∙ rw none refl)
        c
      where
        nothing : (vs : List U) (k : ℕ) → vs ≡ [] → Counted vs k → k ≡ 0
        nothing [] k e c = c
        nothing (v ∷ vs) k e c = absurd (cc)
    odd_truth label (u ∷ us) (more n f fs) m of c = ⊎_elim
        (λ x. truth-more Xor label n f fs ∙ (λ i. differ (x.2.at f of.1 i) (odd_truth label us fs x.0 of.2 x.3 i)) ∙ sym (odd_suc x.0) ∙ sym (ap (λ z. z % 2 == 1) x.1))
        (λ y. truth-more Xor label n f fs ∙ (λ i. differ (y.0.at f of.1 i) (odd_truth label us fs m of.2 y.1 i)))
        c

    odd_met : (us : List U) (m : ℕ) → Counted us m → HasTruth (IsOfQuota Odd text name has us) (m % 2 == 1)
    odd_met [] m c = record {
      at = λ f p. (HasTruth-exactly {b = m % 2 == 1} (rw c refl)).at f (p.of_number.of_settled (inr (omega arith)));
    }
    odd_met (u ∷ us) m c = record {
      at = λ f p. let o = p.of_number.of_counted (omega arith) (omega arith) in ap truth o.is ∙ odd_truth (plain text) (u ∷ us) o.formulas m o.of_each c;
    }

    all_met : (us : List U) (m k : ℕ) → Counted us m → HasTruth (IsOfThreshold k text name has us) (nat_le k m)
    all_met us m k c =
        let all : Counted (take (length us) us) m = subst (λ z. Counted z m) (sym (take_all (length us) us (omega arith))) c in
        ⊎_elim
        (λ few. let no : nat_le k m ≡ false = grind (arith, nat_tests, few) in
        subst (HasTruth (IsOfThreshold k text name has us)) (sym no) (threshold_missed text name us (length us) m (omega arith) all k (omega (arith, few))))
        (λ enough. let yes : nat_le k m ≡ true = grind (arith, nat_tests, enough) in
        subst (HasTruth (IsOfThreshold k text name has us)) (sym yes) (threshold_met text name us (length us) m (omega arith) all k enough))
        (cases_lt m k)

    pub met_truth : (q : Quota) (us : List U) (m : ℕ) → Counted us m → HasTruth (IsOfQuota q text name has us) (meets q (length us) m)
    met_truth (Threshold many) us m c = truth_of_fewer (of_threshold many text name has us) (all_met us m (least_of many (length us)) c)
    met_truth Odd us m c = odd_met us m c
