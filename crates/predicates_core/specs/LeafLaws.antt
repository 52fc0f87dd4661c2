-- Laws of leaves that ghost members of implementations cite: what is printed fits, and there is one
-- formula.
use Rattle.std.proofs.Common.{◌≡◌, ℕ, Bool, List, Option, None, Some, refl, sym, ◌∙◌, subst}
use Rattle.predicates_core.specs.Label.{Label, FitsEntry}
use Rattle.predicates_core.specs.Formula.{Formula, Leaf, text_of}
use Rattle.predicates_core.specs.Leaves.{IsExactly}

pub fits_itself : (entry : Option (List ℕ)) → FitsEntry entry entry
fits_itself None = tt
fits_itself (Some bytes) = refl

pub one_exactly : {f g h : Formula} → IsExactly h f → IsExactly h g → f ≡ g
one_exactly x y = x.is ∙ sym y.is

module _ {label : Label} {own : Bool} where
  pub exactly_text_fits : {f : Formula} → IsExactly (Leaf label own) f
      → FitsEntry (text_of f) label.text
  exactly_text_fits h =
      subst (λ g. FitsEntry (text_of g) label.text) (sym h.is) (fits_itself label.text)
