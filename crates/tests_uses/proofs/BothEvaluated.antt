-- The truth of either part, where both were evaluated.
use Rattle.std.proofs.Common.{◌≡◌, ℕ, Bool, true, false, List, [], ◌∷◌, codes, Option, Some, None, Less, Equal, Greater, Result, Ok, Err, IfOk, IsOk, refl, sym, subst, ap, ◌∙◌}
use Rattle.std.specs.Prelude.{◌||◌, ◌==◌, not, cond, nat_lt}
use Rattle.std.specs.Ordering.{is_lt, nat_cmp}
use Rattle.predicates_core.specs.declared.custom.join.Operator.TheVariants.{Or}
use Rattle.predicates_core.specs.Formula.{Formula, HasTruth, Leaf, pair}
use Rattle.predicates_core.specs.Tree.{Tree}
use Rattle.predicates_core.specs.Describe.{CaseNode, NamedCase}
use Rattle.predicates_core.specs.Shows.{IsNode, IsCaseOf}
use Rattle.predicates_core.specs.Label.{Label, plain, Fits}
use Rattle.predicates_core.specs.Leaves.{IsExactly}
use Rattle.predicates_core.specs.Combined.{IsPair}
use Rattle.predicates_core.proofs.Values.{truth-Leaf, truth-pair}
use Rattle.predicates_core.specs.Kinds.{reasons}
use Rattle.predicates_core.proofs.Asked.{pair_case}
use Rattle.predicates_core.proofs.CombinedLemmas.{HasTruth-pair, HasTruth-left}

module _ {text : Option (List ℕ)} {left right : Formula → Type 0} where
  pub HasTruth-or_both : {a b e : Bool} → HasTruth left a → HasTruth right b → e ≡ (a || b) → HasTruth (IsPair Or text left right) e
  HasTruth-or_both of_l of_r e = subst (HasTruth (IsPair Or text left right)) (sym e) (HasTruth-pair Or of_l of_r)

  pub HasTruth-or_neither : {a : Bool} → HasTruth left a → a ≡ true → HasTruth (IsPair Or text left right) a
  HasTruth-or_neither of_l e = HasTruth-left Or of_l e (λ y. sym e)

module _ {text : Option (List ℕ)} {left right : Formula → Type 0} {b : Bool} {t : Tree CaseNode} {bytes : List ℕ} where
  pub IsCaseOf-or_both : {c d : Tree CaseNode} → IsNode (Some bytes) b ((codes "left", c) ∷ (codes "right", d) ∷ []) t → Fits text bytes → IsCaseOf left b c → IsCaseOf right b d → b ≡ false → IsCaseOf (IsPair Or text left right) b t
  IsCaseOf-or_both {c} {d} written fits x y e = subst (λ z. IsCaseOf (IsPair Or text left right) z t) (sym e)
      (pair_case reasons Or false false (Some c) (Some d) (HasTruth-pair Or (rw e at x.truth) (rw e at y.truth)) (rw e at x.truth) (rw e at y.truth) (rw e at x) (rw e at y) (rw e at written) fits)

  pub IsCaseOf-or_left : {c : Tree CaseNode} → IsNode (Some bytes) b ((codes "left", c) ∷ []) t → Fits text bytes → IsCaseOf left b c → b ≡ true → IsCaseOf (IsPair Or text left right) b t
  IsCaseOf-or_left {c} written fits x e = subst (λ z. IsCaseOf (IsPair Or text left right) z t) (sym e)
      (pair_case reasons Or true true (Some c) None (HasTruth-left Or (rw e at x.truth) refl (λ z. refl)) (rw e at x.truth) tt (rw e at x) refl (rw e at written) fits)

  pub IsCaseOf-or_right : {d : Tree CaseNode} → IsNode (Some bytes) b ((codes "right", d) ∷ []) t → Fits text bytes → HasTruth left (not b) → IsCaseOf right b d → b ≡ true → IsCaseOf (IsPair Or text left right) b t
  IsCaseOf-or_right {d} written fits x y e = subst (λ z. IsCaseOf (IsPair Or text left right) z t) (sym e)
      (pair_case reasons Or false true None (Some d) (HasTruth-pair Or (rw e at x) (rw e at y.truth)) (rw e at x) (rw e at y.truth) refl (rw e at y) (rw e at written) fits)

-- the same of whichever truth the whole has, where those of the parts are read from their cases
module _ {text : Option (List ℕ)} {left right : Formula → Type 0} {t : Tree CaseNode} {bytes : List ℕ} where
  whole : (b : Bool) {parts : List NamedCase} → IsNode (Some bytes) b parts t → IsCaseOf (IsPair Or text left right) b t → IsCaseOf (IsPair Or text left right) t.root.result t
  whole b written x = subst (λ r. IsCaseOf (IsPair Or text left right) r t) (sym written.result) x

  pub IsFound-or_left : {c : Tree CaseNode} → IsNode (Some bytes) true ((codes "left", c) ∷ []) t → Fits text bytes → IsCaseOf left c.root.result c → c.root.result ≡ true → IsCaseOf (IsPair Or text left right) t.root.result t
  IsFound-or_left {c} written fits x e = whole true written (IsCaseOf-or_left written fits (subst (λ b. IsCaseOf left b c) e x) refl)

  pub IsFound-or_right : {c d : Tree CaseNode} → IsNode (Some bytes) true ((codes "right", d) ∷ []) t → Fits text bytes → IsCaseOf left c.root.result c → c.root.result ≡ false → IsCaseOf right d.root.result d → d.root.result ≡ true → IsCaseOf (IsPair Or text left right) t.root.result t
  IsFound-or_right {c} {d} written fits x is_c y is_d = whole true written (IsCaseOf-or_right written fits (subst (HasTruth left) is_c x.truth) (subst (λ b. IsCaseOf right b d) is_d y) refl)

  pub IsFound-or_both : {c d : Tree CaseNode} → IsNode (Some bytes) false ((codes "left", c) ∷ (codes "right", d) ∷ []) t → Fits text bytes → IsCaseOf left c.root.result c → c.root.result ≡ false → IsCaseOf right d.root.result d → d.root.result ≡ false → IsCaseOf (IsPair Or text left right) t.root.result t
  IsFound-or_both {c} {d} written fits x is_c y is_d = whole false written (IsCaseOf-or_both written fits (subst (λ b. IsCaseOf left b c) is_c x) (subst (λ b. IsCaseOf right b d) is_d y) refl)

module _ {text : Option (List ℕ)} {left right : Formula → Type 0} where
  pub no_left : ((f : Formula) → left f → ⊥) → (f : Formula) → IsPair Or text left right f → ⊥
  no_left none f h = none h.left_formula h.of_left

  pub no_right : ((f : Formula) → right f → ⊥) → (f : Formula) → IsPair Or text left right f → ⊥
  no_right none f h = none h.right_formula h.of_right

-- what is answered of two leaves, where no memory is requested
truth_of_either : {text : Option (List ℕ)} {left right : Label} {a b e : Bool} → HasTruth (IsPair Or text (IsExactly (Leaf left a)) (IsExactly (Leaf right b))) e → e ≡ (a || b)
truth_of_either {text} {left} {right} {a} {b} h =
    sym (h.at (pair Or (plain text) (Leaf left a) (Leaf right b)) (record { left_formula = Leaf left a; right_formula = Leaf right b; of_left = record { is = refl }; of_right = record { is = refl }; is = refl }))
    ∙ truth-pair Or (plain text) (Leaf left a) (Leaf right b) ∙ (λ i. truth-Leaf left a i || truth-Leaf right b i)

pub either_truth : (text : Option (List ℕ)) (left right : Label) (a b : Bool) {E : Type 0} (r : Result Bool E) → IsOk r → IfOk r (HasTruth (IsPair Or text (IsExactly (Leaf left a)) (IsExactly (Leaf right b)))) → r ≡ Ok (a || b)
either_truth text left right a b (Ok e) ok h = ap Ok (truth_of_either h)
either_truth text left right a b (Err e) ok h = absurd (cc)

less_of_choice : (a b : Bool) → is_lt (cond a Less (cond b Equal Greater)) ≡ a
less_of_choice true b = refl
less_of_choice false true = refl
less_of_choice false false = refl

pub less_is : (a b : ℕ) → is_lt (nat_cmp a b) ≡ nat_lt a b
less_is a b = less_of_choice (nat_lt a b) (a == b)

pub ruleset both_evaluated = (HasTruth-or_both, HasTruth-or_neither)
