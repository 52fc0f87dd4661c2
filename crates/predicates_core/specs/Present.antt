-- The formulas of a predicate that takes a value that may be absent.
use Rattle.std.specs.Prelude.{◌≡◌, refl, ℕ, List, false, Option, Some, None, codes}
use Rattle.std.proofs.Common.{subst}
use Rattle.predicates_core.specs.Label.{Entry, FitsEntry, showing}
use Rattle.predicates_core.specs.Formula.{Formula, Leaf, text_of}
use Rattle.predicates_core.specs.Leaves.{IsExactly}
use Rattle.predicates_core.specs.LeafLaws.{exactly_text_fits, one_exactly}

-- a false leaf that says what stands in the value's place
abbrev pub absent_leaf : Entry → List ℕ → Formula
absent_leaf text reason = Leaf (showing text (codes "error") (Some reason)) false

-- f is a formula on the value, or the leaf where there is none
pub record IsOfPresent {U : Type 0} (text : Entry) (reason : List ℕ) (has : U → Formula → Type 0)
    (held : Option U) (f : Formula) : Type 0 where
  pub of_some : (u : U) → held ≡ Some u → has u f
  pub of_none : held ≡ None → IsExactly (absent_leaf text reason) f

module _ {U : Type 0} {text : Entry} {reason : List ℕ} {has : U → Formula → Type 0} where
  pub present_text_fits : {f : Formula} (held : Option U)
      → ((u : U) (g : Formula) → has u g → FitsEntry (text_of g) text)
      → IsOfPresent text reason has held f → FitsEntry (text_of f) text
  present_text_fits {f} (Some u) fits h = fits u f (h.of_some u refl)
  present_text_fits None fits h = exactly_text_fits (h.of_none refl)

  pub one_present : {f g : Formula} (held : Option U)
      → ((u : U) (x y : Formula) → has u x → has u y → x ≡ y) → IsOfPresent text reason has held f
      → IsOfPresent text reason has held g → f ≡ g
  one_present {f} {g} (Some u) one h k = one u f g (h.of_some u refl) (k.of_some u refl)
  one_present None one h k = one_exactly (h.of_none refl) (k.of_none refl)

-- the one formula, where the part has one on each value
abbrev pub present_formula : {U : Type 0} → Entry → List ℕ → (U → Formula) → Option U → Formula
present_formula text reason formula_of (Some u) = formula_of u
present_formula text reason formula_of None = absent_leaf text reason

pub has_present : {U : Type 0} (text : Entry) (reason : List ℕ) (has : U → Formula → Type 0)
    (formula_of : U → Formula) (held : Option U) → ((u : U) → has u (formula_of u))
    → IsOfPresent text reason has held (present_formula text reason formula_of held)
has_present text reason has formula_of (Some u) had = record {
  of_some = λ w e. let same : u ≡ w = cc in subst (λ z. has z (formula_of u)) same (had u);
  of_none = λ e. absurd (cc);
}
has_present text reason has formula_of None had = record {
  of_some = λ w e. absurd (cc);
  of_none = λ e. record { is = refl };
}
