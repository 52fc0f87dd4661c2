-- Laws of names that ghost members of implementations cite: what is printed fits, there is one
-- formula where the part has one at most, and there is one where the part has one.
use Rattle.std.proofs.Common.{◌≡◌, ℕ, List, Some, refl, sym, ap, ◌∙◌, subst}
use Rattle.predicates_core.specs.Label.{plain, FitsEntry}
use Rattle.predicates_core.specs.Formula.{Formula, Named, text_of}
use Rattle.predicates_core.specs.Combined.{IsNamed}
use Rattle.predicates_core.specs.LeafLaws.{fits_itself}

module _ {name : List ℕ} {part : Formula → Type 0} where
  pub named_text_fits : {f : Formula} → IsNamed name part f → FitsEntry (text_of f) (Some name)
  named_text_fits h = subst (λ g. FitsEntry (text_of g) (Some name)) (sym h.is)
      (fits_itself (Some name))

  pub one_named : {f g : Formula} → ((x y : Formula) → part x → part y → x ≡ y)
      → IsNamed name part f → IsNamed name part g → f ≡ g
  one_named same h k = h.is
      ∙ ap (Named (plain (Some name)) name) (same h.inner k.inner h.of_part k.of_part) ∙ sym k.is

  pub has_named : {f : Formula} → part f → IsNamed name part (Named (plain (Some name)) name f)
  has_named {f} of_part = record { inner = f; of_part = of_part; is = refl }
