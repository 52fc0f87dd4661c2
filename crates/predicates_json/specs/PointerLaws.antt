-- Laws of predicates of what stands at a pointer.
use Rattle.std.proofs.Common.{◌≡◌, ℕ, List, Some, refl, sym, ap, ◌∙◌, subst}
use Rattle.predicates_core.specs.Label.{FitsEntry}
use Rattle.predicates_core.specs.Formula.{Formula, text_of}
use Rattle.predicates_json.specs.Pointer.{at_formula, IsAt}

module _ {pointer : List ℕ} {part : Formula → Type 0} where
  pub at_text_fits : {f : Formula} → IsAt pointer part f → FitsEntry (text_of f) (Some pointer)
  at_text_fits h = subst (λ g. FitsEntry (text_of g) (Some pointer)) (sym h.is) refl

  pub one_at : {f g : Formula} → ((x y : Formula) → part x → part y → x ≡ y)
      → IsAt pointer part f → IsAt pointer part g → f ≡ g
  one_at one h k = h.is ∙ ap (at_formula pointer) (one h.inner k.inner h.of_part k.of_part)
      ∙ sym k.is

  pub has_at : {f : Formula} → part f → IsAt pointer part (at_formula pointer f)
  has_at {f} had = record { inner = f; of_part = had; is = refl }
