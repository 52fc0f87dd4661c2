-- The changes of the rules that a record breaks are together the first change of all rules.
use Rattle.std.proofs.Common.{◌≡◌, inl, inr, ℕ, zero, suc, ◌+◌, ◌-◌, ◌≤◌, List, [], ◌∷◌, ◌++◌, map, length, Bool, true, false, cond, refl, sym, ap, subst, arith, append-nil}
use Rattle.std.specs.Prelude.{◌&&◌}
use Rattle.std.specs.List.{AllZip}
use mathlib.Core.Bool.{beq}
use Rattle.serde_json.specs.Data.{Data}
use Rattle.predicates_core.specs.Label.{Label}
use Rattle.predicates_core.specs.Formula.{Formula, Formulas, more, AtLeast, size, truth, actual, actual_of_parts, number_of_parts, needed, one_if}
use Rattle.predicates_core.specs.Kinds.{changes}
use Rattle.predicates_core.specs.Change.{ExplainsChange}
use Rattle.predicates_core.specs.Several.{formulas_of}
use Rattle.predicates_core.specs.Tree.{Tree}
use Rattle.predicates_core.specs.Describe.{CaseNode}
use Rattle.predicates_core.proofs.Numbers.{shifted}
use Rattle.predicates_core.proofs.Values.{needed_is}
use Rattle.predicates_core.proofs.Thresholds.{like, many, is_like, many_like, decisive, by_reached}
use Rattle.predicates_core.proofs.Selection.{IsSelected}
use Rattle.predicates_core.proofs.FirstOf.{first_of_threshold}
use Rattle.vet_checks.specs.declared.rule_check.RuleCheck.{RuleCheck}
use Rattle.vet_run.specs.Records.{formula_on, keeps, broken}
use Rattle.vet_run.specs.Together.{AreShownBy, ShowTogether}

shifted_is : (n : ℕ) (R : List ℕ) → shifted n R ≡ map (λ k. n + k) R
shifted_is n [] = refl
shifted_is n (k ∷ R) = ap (λ z. (n + k) ∷ z) (shifted_is n R)

-- leaves of so many of the parts, and of which cases they are
abbrev Shared : List ℕ → Data → RuleCheck → List RuleCheck → List (Tree CaseNode) → ℕ → Type 0
Shared name d r rs cases m = (S : List ℕ) × IsSelected changes (is_like false) m (formulas_of name (formula_on d) r rs) S × AreShownBy d (r ∷ rs) cases S

none_selected : (fs : Formulas) (m : ℕ) (S : List ℕ) → m ≡ 0 → IsSelected changes (is_like false) m fs S → S ≡ []
none_selected fs zero S e h = h
none_selected fs (suc m) S e h = absurd (omega (arith, e))

-- leaves of other parts alone
behind : (n : List ℕ) (f : Formula) (fs : Formulas) (m : ℕ) (S : List ℕ) → is_like false f ≡ false → IsSelected changes (is_like false) m fs S
    → IsSelected changes (is_like false) m (more n f fs) (shifted (size f) S)
behind n f fs zero S other h = rw h refl
behind n f fs (suc m) S other h = ([], S, refl, inr (other, refl, h))

module _ (name : List ℕ) (d : Data) where
  last_shared : (r : RuleCheck) (cases : List (Tree CaseNode)) (b : Bool) → truth (formula_on d r) ≡ b → AllZip ExplainsChange (map (formula_on d) (cond b [] (r ∷ []))) cases → Shared name d r [] cases (one_if (beq b false))
  last_shared r [] true is h = ([], refl, ([], [], refl, inl (is, refl, (refl, refl))))
  last_shared r (c ∷ cs) true is h = absurd h
  last_shared r [] false is h = absurd h
  last_shared r (c ∷ []) false is h = (h.0.leaves, (rw is refl, h.0.first, refl), (h.0.leaves, [], sym (append-nil h.0.leaves), inr (is, (c, [], refl, h.0.shown, (refl, refl)))))
  last_shared r (c ∷ e ∷ cs) false is h = absurd h.1

  more_shared : (r q : RuleCheck) (rs : List RuleCheck) (cases : List (Tree CaseNode)) (m : ℕ) (b : Bool) → truth (formula_on d r) ≡ b
      → ((cs : List (Tree CaseNode)) → AllZip ExplainsChange (map (formula_on d) (broken (q ∷ rs) d)) cs → Shared name d q rs cs m)
      → AllZip ExplainsChange (map (formula_on d) (cond b (broken (q ∷ rs) d) (r ∷ broken (q ∷ rs) d))) cases → Shared name d r (q ∷ rs) cases (one_if (beq b false) + m)
  more_shared r q rs cases m true is rest h =
      let s = rest cases h in
      let S = shifted (size (formula_on d r)) s.0 in
      let fs = formulas_of name (formula_on d) r (q ∷ rs) in
      let same : IsSelected changes (is_like false) m fs S = behind name (formula_on d r) (formulas_of name (formula_on d) q rs) m s.0 (rw is refl) s.1 in
      let count : m ≡ 0 + m = omega arith in
      (S, subst (λ k. IsSelected changes (is_like false) k fs S) count same, ([], s.0, shifted_is (size (formula_on d r)) s.0, inl (is, refl, s.2)))
  more_shared r q rs [] m false is rest h = absurd h
  more_shared r q rs (c ∷ cs) m false is rest h =
      let s = rest cs h.1 in
      let L = h.0.leaves in
      let S = L ++ shifted (size (formula_on d r)) s.0 in
      let fs = formulas_of name (formula_on d) r (q ∷ rs) in
      let one_more : IsSelected changes (is_like false) (suc m) fs S = (L, s.0, refl, inl (rw is refl, h.0.first, s.1)) in
      let count : suc m ≡ 1 + m = omega arith in
      (S, subst (λ k. IsSelected changes (is_like false) k fs S) count one_more, (L, s.0, ap (λ z. L ++ z) (shifted_is (size (formula_on d r)) s.0), inr (is, (c, cs, refl, h.0.shown, s.2))))

  shared : (r : RuleCheck) (rs : List RuleCheck) (cases : List (Tree CaseNode)) → AllZip ExplainsChange (map (formula_on d) (broken (r ∷ rs) d)) cases
      → Shared name d r rs cases (many (is_like false) (formulas_of name (formula_on d) r rs))
  shared r [] cases h = last_shared r cases (truth (formula_on d r)) refl h
  shared r (q ∷ rs) cases h = more_shared r q rs cases (many (is_like false) (formulas_of name (formula_on d) q rs)) (truth (formula_on d r)) refl (λ cs g. shared q rs cs g) h

  number_is : (r : RuleCheck) (rs : List RuleCheck) → number_of_parts (formulas_of name (formula_on d) r rs) ≡ suc (length rs)
  number_is r [] = refl
  number_is r (q ∷ rs) = ap suc (number_is q rs)

  some_fails : (r : RuleCheck) (rs : List RuleCheck) → keeps (r ∷ rs) d ≡ false → 1 ≤ many (is_like false) (formulas_of name (formula_on d) r rs)
  some_fails r rs e = by_truth r rs (truth (formula_on d r)) refl e
    where
      by_truth : (q : RuleCheck) (qs : List RuleCheck) (b : Bool) → truth (formula_on d q) ≡ b → (b && keeps qs d) ≡ false → 1 ≤ many (is_like false) (formulas_of name (formula_on d) q qs)
      by_truth q [] true is h = absurd cc
      by_truth q [] false is h = rw is (omega arith)
      by_truth q (p ∷ qs) true is h = let ih = by_truth p qs (truth (formula_on d p)) refl h in omega (arith, ih)
      by_truth q (p ∷ qs) false is h = rw is (omega arith)

is_false : (k : ℕ) (label : Label) (fs : Formulas) → decisive false k fs ≤ like false fs (actual_of_parts fs) → truth (AtLeast k label fs) ≡ false
unfolding truth actual
is_false k label fs h = by_reached false k label fs (actual_of_parts fs) h

pub shown_together : ShowTogether
shown_together label name d r rs cases breaks h =
    let fs = formulas_of name (formula_on d) r rs in
    let n = suc (length rs) in
    let number = number_is name d r rs in
    let all : needed n fs ≡ n = needed_is n fs (omega arith) (omega (arith, number)) in
    let one_decides : decisive false n fs ≡ 1 = omega (arith, all, number) in
    let some = some_fails name d r rs breaks in
    let like_is = many_like false fs in
    let fails : truth (AtLeast n label fs) ≡ false = is_false n label fs (omega (arith, one_decides, some, like_is)) in
    let s = shared name d r rs cases h in
    let quota_is : many (is_like false) fs ≡ suc (like false fs (actual_of_parts fs)) - decisive false n fs = omega (arith, one_decides, like_is) in
    (s.0, first_of_threshold false n label fs fails changes s.0 (subst (λ m. IsSelected changes (is_like false) m fs s.0) quota_is s.1), s.2)
