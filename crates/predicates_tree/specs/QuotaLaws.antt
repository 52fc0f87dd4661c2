-- The laws of what holds where as many of several do as have to.
use Rattle.std.specs.Prelude.{◌≡◌, ◌⊎◌, refl, ℕ, zero, suc, ◌≤◌, List, [], ◌∷◌, length, map, cond}
use Rattle.std.specs.Prelude.{◌&&◌, nat_le}
use Rattle.std.proofs.Common.{ap, ◌∙◌, sym, subst, arith, inl, inr, ⊎_elim}
use Rattle.std.proofs.lemmas.Bool.{cases_lt}
use Rattle.std.proofs.lemmas.List.{length-map}
use Rattle.predicates_core.specs.Label.{Entry, FitsEntry, plain}
use Rattle.predicates_core.specs.declared.custom.join.Operator.TheVariants.{Xor}
use Rattle.predicates_core.specs.Formula.{Formula, Formulas, more, Join, AtLeast, text_of}
use Rattle.predicates_core.specs.HowMany.{least_of}
use Rattle.predicates_core.specs.LeafLaws.{exactly_text_fits, one_exactly, fits_itself}
use Rattle.predicates_core.specs.Several.{formulas_of}
use Rattle.predicates_core.specs.Thresholds.{IsSettled, settled, threshold_formula}
use Rattle.predicates_core.proofs.Several.{are_formulas}
use Rattle.predicates_core.proofs.ThresholdCases.{has_threshold}
use Rattle.predicates_tree.specs.declared.quota.Quota.{Quota}
use Rattle.predicates_tree.specs.declared.quota.Quota.TheVariants.{Threshold, Odd}
use Rattle.predicates_tree.specs.Quotas.{least, over, IsOfNumber, IsOfQuota}
use Rattle.predicates_tree.specs.Quotas.{quota_formula}

-- so many of n settle it, or they count
pub settled_or_not : (k n : ℕ) → IsSettled k n ⊎ ((1 ≤ k) × (k ≤ n))
settled_or_not zero n = inl (inl refl)
settled_or_not (suc k) n = ⊎_elim (λ few. inl (inr few)) (λ within. inr (omega arith, within))
    (cases_lt n (suc k))

text_over : (q : Quota) (n : ℕ) (text : Entry) (fs : Formulas) → text_of (over q n text fs) ≡ text
text_over (Threshold many) n text fs = refl
text_over Odd n text fs = refl

module _ {text : Entry} {are : Formulas → Type 0} {f : Formula} (q : Quota) (n : ℕ) where
  pub number_text_fits : IsOfNumber q n text are f → FitsEntry (text_of f) text
  number_text_fits h = ⊎_elim
      (λ s. exactly_text_fits (h.of_settled s))
      (λ c. let o = h.of_counted c.0 c.1 in
      subst (λ entry. FitsEntry entry text)
      (sym (ap text_of o.is ∙ text_over q n text o.formulas)) (fits_itself text))
      (settled_or_not (least q n) n)

  pub one_by_number : {g : Formula} → ((fs gs : Formulas) → are fs → are gs → fs ≡ gs)
      → IsOfNumber q n text are f → IsOfNumber q n text are g → f ≡ g
  one_by_number one h i = ⊎_elim
      (λ s. one_exactly (h.of_settled s) (i.of_settled s))
      (λ c.
      let p = h.of_counted c.0 c.1 in
      let r = i.of_counted c.0 c.1 in
      p.is ∙ ap (over q n text) (one p.formulas r.formulas p.of_each r.of_each) ∙ sym r.is)
      (settled_or_not (least q n) n)

module _ {U : Type 0} {text : Entry} {name : List ℕ} {has : U → Formula → Type 0} where
  pub has_quota : (q : Quota) (g : U → Formula) (us : List U) → ((u : U) → has u (g u))
      → IsOfQuota q text name has us (quota_formula q text name g us)
  has_quota (Threshold many) g us had =
      let h = has_threshold {text = text} {name = name} (least_of many (length us)) g us had in
      record {
        of_number = record {
          of_settled = h.of_settled;
          of_counted = λ some within.
              let c = h.of_counted some within in
              record { formulas = c.formulas; of_each = c.of_each; is = c.is };
        };
      }
  has_quota Odd g [] had = record {
    of_number = record {
      of_settled = λ s. record { is = refl };
      of_counted = λ some within. absurd (omega (arith, within));
    };
  }
  has_quota Odd g (u ∷ us) had = record {
    of_number = record {
      of_settled = λ s. absurd (⊎_elim (λ e. omega (arith, e)) (λ few. omega (arith, few)) s);
      of_counted = λ some within. record {
        formulas = formulas_of name g u us;
        of_each = are_formulas name has g u us had;
        is = refl;
      };
    };
  }

-- the formulas of the members, by what is read of each
module _ {U K : Type 0} (name : List ℕ) (read : U → K) (g : K → Formula) where
  formulas_read : (u : U) (us : List U) → formulas_of name g (read u) (map read us)
      ≡ formulas_of name (λ w. g (read w)) u us
  formulas_read u [] = refl
  formulas_read u (w ∷ us) = ap (more name (g (read u))) (formulas_read w us)

  threshold_read : (least : ℕ) (text : Entry) (us : List U)
      → threshold_formula least text name (λ w. g (read w)) us
      ≡ threshold_formula least text name g (map read us)
  threshold_read least text [] = refl
  threshold_read least text (u ∷ us) =
      let number : length (map read us) ≡ length us = length-map us read in
      (λ i. cond (nat_le 1 least && nat_le least (suc (sym number i)))
      (AtLeast least (plain text) (sym (formulas_read u us) i))
      (settled text least (suc (sym number i))))

pub quota_read : {U K : Type 0} (q : Quota) (text : Entry) (name : List ℕ) (read : U → K)
    (g : K → Formula) (us : List U) → quota_formula q text name (λ w. g (read w)) us
    ≡ quota_formula q text name g (map read us)
quota_read (Threshold many) text name read g us =
    threshold_read name read g (least_of many (length us)) text us
    ∙ ap (λ n. threshold_formula (least_of many n) text name g (map read us))
    (sym (length-map us read))
quota_read Odd text name read g [] = refl
quota_read Odd text name read g (u ∷ us) =
    ap (Join Xor (plain text)) (sym (formulas_read name read g u us))
