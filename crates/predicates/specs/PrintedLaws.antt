-- The laws of a box: its printed text fits its formula, and it has one on each text.
use Rattle.std.specs.Prelude.{◌≡◌, refl, ℕ, Bool, true, false, cond, List, None, Some}
use Rattle.std.proofs.Common.{sym, ap, ◌∙◌}
use Rattle.std.proofs.lemmas.Slice.Eq.{bytes_eq-Decides}
use Rattle.predicates_core.specs.Label.{Entry, FitsEntry}
use Rattle.predicates_core.specs.Formula.{Formula, Leaf, Join, Not, Named, AtLeast, text_of}
use Rattle.predicates.specs.Printed.{opened, fits, as_printed, IsPrintedAs}

text-opened : (f : Formula) → text_of (opened f) ≡ None
text-opened (Leaf label own) = refl
text-opened (Join op label fs) = refl
text-opened (Not label f) = refl
text-opened (Named label name f) = refl
text-opened (AtLeast k label fs) = refl

fits-from_test : (entry : Entry) (bytes : List ℕ) → fits entry bytes ≡ true
    → FitsEntry entry (Some bytes)
fits-from_test None bytes h = tt
fits-from_test (Some given) bytes h = ap Some ((bytes_eq-Decides bytes given).0 h)

text_fits-as_printed : (bytes : List ℕ) (f : Formula)
    → FitsEntry (text_of (as_printed bytes f)) (Some bytes)
text_fits-as_printed bytes f =
    let Q : Bool → Type 0 = λ b. fits (text_of f) bytes ≡ b
    → FitsEntry (text_of (cond b f (opened f))) (Some bytes) in
    let both : (b : Bool)
    → Q b = elim
    [ true ↦ λ h. fits-from_test (text_of f) bytes h | false ↦ λ h. rw text-opened tt ] in
    both (fits (text_of f) bytes) refl

pub printed_text_fits : {bytes : List ℕ} {held f : Formula} → IsPrintedAs bytes held f
    → FitsEntry (text_of f) (Some bytes)
printed_text_fits {bytes} {held} h = rw h.is (text_fits-as_printed bytes held)

pub one_printed : {bytes : List ℕ} {held f g : Formula} → IsPrintedAs bytes held f
    → IsPrintedAs bytes held g → f ≡ g
one_printed x y = x.is ∙ sym y.is
