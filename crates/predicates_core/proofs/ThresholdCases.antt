-- The truth of a threshold over several members, its printed text, and that there is one formula.
use Rattle.std.proofs.Common.{◌≡◌, ◌⊎◌, ℕ, zero, suc, ◌≤◌, Bool, true, false, List, [], ◌∷◌, ◌++◌, length, take, drop, refl, sym, ap, ◌∙◌, subst, arith, inl, inr, ⊎_elim}
use Rattle.std.specs.List.{AllByRecursion}
use Rattle.std.specs.Prelude.{◌&&◌, nat_le, Result, Ok, Err, IfOk}
use Rattle.std.proofs.lemmas.Bool.{cases_lt}
use Rattle.std.proofs.lemmas.Bool.Decides.{nat_tests}
use Rattle.std.proofs.lemmas.List.{take-append-drop}
use Rattle.predicates_core.specs.Label.{Entry, plain, FitsEntry}
use Rattle.predicates_core.specs.Formula.{Formula, Formulas, one, more, AtLeast, number_of_parts, enough_of, actual_of_parts, truth, text_of, HasTruth}
use Rattle.predicates_core.specs.Several.{AreOfEach, formulas_of}
use Rattle.predicates_core.specs.Thresholds.{IsSettled, IsOfThreshold, threshold_formula}
use Rattle.predicates_core.specs.LeafLaws.{exactly_text_fits, one_exactly, fits_itself}
use Rattle.predicates_core.proofs.Thresholds.{like, one_like, like-actual, like-one, decisive, truth_by_parts}
use Rattle.predicates_core.proofs.Values.{needed_is}
use Rattle.predicates_core.proofs.Several.{HasOne, one_of_each, are_formulas}
use Rattle.predicates_core.proofs.Leaves.{HasTruth-exactly}

module _ {U : Type 0} (name : List ℕ) (has : U → Formula → Type 0) where
  pub number_of_each : (us : List U) (fs : Formulas) → AreOfEach name has us fs → number_of_parts fs ≡ length us
  number_of_each [] fs of = absurd of
  number_of_each (u ∷ us) (one n f) of = sym (ap (λ z. suc (length z)) of.2)
  number_of_each (u ∷ us) (more n f fs) of = ap suc (number_of_each us fs of.2)

  pub decisive_is : (b : Bool) (k : ℕ) (us : List U) (fs : Formulas) → AreOfEach name has us fs → 1 ≤ k → k ≤ length us → decisive b k fs ≡ enough_of b k (length us)
  decisive_is true k us fs of some within = let e = number_of_each us fs of in needed_is k fs some (omega (arith, within, e))
  decisive_is false k us fs of some within =
      let e = number_of_each us fs of in
      let n = needed_is k fs some (omega (arith, within, e)) in
      omega (arith, e, n)

module _ (b : Bool) {U : Type 0} (has : U → Formula → Type 0) where
  -- at least m of the members have the truth
  abbrev pub Among : List U → ℕ → Type 0
  Among us zero = Unit {0}
  Among [] (suc m) = ⊥
  Among (u ∷ us) (suc m) = (HasTruth (has u) b × Among us m) ⊎ Among us (suc m)

  among_first : (us vs : List U) (m : ℕ) → Among us m → Among (us ++ vs) m
  among_first us vs zero a = tt
  among_first [] vs (suc m) a = absurd a
  among_first (u ∷ us) vs (suc m) a = ⊎_elim (λ x. inl (x.0, among_first us vs m x.1)) (λ y. inr (among_first us vs (suc m) y)) a

  pub among_all : (us : List U) (k m : ℕ) → Among (take k us) m → Among us m
  among_all us k m a = subst (λ z. Among z m) (take-append-drop k us) (among_first (take k us) (drop k us) m a)

  among_none : (us : List U) (m : ℕ) → us ≡ [] → Among us m → m ≡ 0
  among_none [] zero e a = refl
  among_none [] (suc m) e a = absurd a
  among_none (u ∷ us) m e a = absurd (cc)

  pub among_like : (name : List ℕ) (us : List U) (m : ℕ) (fs : Formulas) → AreOfEach name has us fs → Among us m → m ≤ like b fs (actual_of_parts fs)
  among_like name us zero fs of a = omega arith
  among_like name [] (suc m) fs of a = absurd a
  among_like name (u ∷ us) (suc m) (one n f) of a = ⊎_elim
      (λ x.
      let z = among_none us m of.2 x.1 in
      let o = one_like (truth f) b (x.0.at f of.1) in
      let e = like-one b n f in
      omega (arith, z, o, e))
      (λ y. let z = among_none us (suc m) of.2 y in absurd (omega (arith, z)))
      a
  among_like name (u ∷ us) (suc m) (more n f fs) of a = ⊎_elim
      (λ x.
      let ih = among_like name us m fs of.2 x.1 in
      let o = one_like (truth f) b (x.0.at f of.1) in
      let e = like-actual b n f fs in
      omega (arith, ih, o, e))
      (λ y. let ih = among_like name us (suc m) fs of.2 y in let e = like-actual b n f fs in omega (arith, ih, e))
      a

  -- ---- the truth

  pub HasTruth-among : {text : Entry} {name : List ℕ} {us : List U} (k : ℕ) → 1 ≤ k → k ≤ length us → Among us (enough_of b k (length us)) → HasTruth (IsOfThreshold k text name has us) b
  HasTruth-among {text} {name} {us} k some within a = record {
    at = λ f p.
        let c = p.of_counted some within in
        let fs = c.formulas in
        let e = decisive_is name has b k us fs c.of_each some within in
        let h = among_like name us (enough_of b k (length us)) fs c.of_each a in
        ap truth c.is ∙ truth_by_parts b k (plain text) fs (omega (arith, e, h));
  }

  pub HasTruth-settled : {text : Entry} {name : List ℕ} {us : List U} (k : ℕ) → IsSettled k (length us) → nat_le k (length us) ≡ b → HasTruth (IsOfThreshold k text name has us) b
  HasTruth-settled k s e = record { at = λ f p. (HasTruth-exactly e).at f (p.of_settled s) }

-- ---- the printed text, and that there is one formula

-- so many parts settle it, or they count
pub settled_or_not : (k n : ℕ) → IsSettled k n ⊎ ((1 ≤ k) × (k ≤ n))
settled_or_not zero n = inl (inl refl)
settled_or_not (suc k) n = ⊎_elim (λ few. inl (inr few)) (λ within. inr (omega arith, within)) (cases_lt n (suc k))

counts_not : (k n : ℕ) → IsSettled k n → (nat_le 1 k && nat_le k n) ≡ false
counts_not k n s = ⊎_elim (λ none. by_none k none) (λ few. let e : nat_le k n ≡ false = grind (arith, nat_tests) in rw e (and_false (nat_le 1 k))) s
  where
    by_none : (k : ℕ) → k ≡ 0 → (nat_le 1 k && nat_le k n) ≡ false
    by_none zero e = refl
    by_none (suc k) e = absurd (omega (arith, e))

    and_false : (b : Bool) → (b && false) ≡ false
    and_false true = refl
    and_false false = refl

counts_so : (k n : ℕ) → 1 ≤ k → k ≤ n → (nat_le 1 k && nat_le k n) ≡ true
counts_so k n some within =
    let a : nat_le 1 k ≡ true = grind (arith, nat_tests) in
    let b : nat_le k n ≡ true = grind (arith, nat_tests) in
    rw (a, b) refl

module _ {U : Type 0} {text : Entry} {name : List ℕ} {has : U → Formula → Type 0} where
  pub threshold_text_fits : {f : Formula} (k : ℕ) (us : List U) → IsOfThreshold k text name has us f → FitsEntry (text_of f) text
  threshold_text_fits k us h = ⊎_elim
      (λ s. exactly_text_fits (h.of_settled s))
      (λ c. subst (λ entry. FitsEntry entry text) (sym (ap text_of (h.of_counted c.0 c.1).is)) (fits_itself text))
      (settled_or_not k (length us))

  pub one_by_threshold : {f g : Formula} (k : ℕ) (us : List U) → AllByRecursion (HasOne name has) us → IsOfThreshold k text name has us f → IsOfThreshold k text name has us g → f ≡ g
  one_by_threshold k us one_of h i = ⊎_elim
      (λ s. one_exactly (h.of_settled s) (i.of_settled s))
      (λ c.
      let p = h.of_counted c.0 c.1 in
      let r = i.of_counted c.0 c.1 in
      p.is ∙ ap (AtLeast k (plain text)) (one_of_each name has us p.formulas r.formulas one_of p.of_each r.of_each) ∙ sym r.is)
      (settled_or_not k (length us))

  pub has_threshold : (k : ℕ) (g : U → Formula) (us : List U) → ((u : U) → has u (g u)) → IsOfThreshold k text name has us (threshold_formula k text name g us)
  has_threshold k g [] had = record { of_settled = λ s. record { is = refl }; of_counted = λ some within. absurd (omega (arith, some, within)) }
  has_threshold k g (u ∷ us) had = record {
    of_settled = λ s. record { is = rw (counts_not k (length (u ∷ us)) s) refl };
    of_counted = λ some within. record {
      formulas = formulas_of name g u us;
      of_each = are_formulas name has g u us had;
      is = rw (counts_so k (length (u ∷ us)) some within) refl;
    };
  }

-- what is answered for every text and name is answered for one
pub threshold_verdict_of : {U E : Type 0} (k : ℕ) (text : Entry) (name : List ℕ) (has : U → Formula → Type 0) (us : List U) (r : Result Bool E) → IfOk r (λ held. (text : Entry) (name : List ℕ) → HasTruth (IsOfThreshold k text name has us) held) → IfOk r (HasTruth (IsOfThreshold k text name has us))
threshold_verdict_of k text name has us (Ok held) h = h text name
threshold_verdict_of k text name has us (Err e) h = tt
