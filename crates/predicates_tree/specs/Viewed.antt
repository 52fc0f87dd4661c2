-- The formulas of a check of the members that a view gives, where it gives a list.
use Rattle.std.specs.Prelude.{◌≡◌, refl, List, false, Option, Some, None, option_map}
use Rattle.std.proofs.Common.{subst}
use Rattle.predicates_core.specs.Label.{Entry, FitsEntry, Product}
use Rattle.predicates_core.specs.Formula.{Formula, Leaf, text_of}
use Rattle.predicates_core.specs.Leaves.{IsExactly}
use Rattle.predicates_core.specs.LeafLaws.{exactly_text_fits, one_exactly}
use Rattle.predicates_tree.specs.declared.view.Listed.{Listed}
use Rattle.predicates_tree.specs.declared.view.Listed.TheVariants.{Slice, Kept}

-- a false leaf that shows why there is no list
abbrev pub no_list : Entry → List Product → Formula
no_list text products = Leaf (record { text = text; products = products }) false

-- f is a formula on each list that the view gives, or the leaf where it gives none
pub record IsViewed {U : Type 0} (text : Entry) (absence : List Product)
    (has : List U → Formula → Type 0) (gives : Option (List U) → Type 0) (f : Formula) : Type 0
  where
    pub of_list : (us : List U) → gives (Some us) → has us f
    pub of_none : gives None → IsExactly (no_list text absence) f

module _ {U : Type 0} {text : Entry} {absence : List Product} {has : List U → Formula → Type 0}
    {gives : Option (List U) → Type 0} where
  pub viewed_text_fits : {f : Formula} (held : Option (List U)) → gives held
      → ((us : List U) (g : Formula) → has us g → FitsEntry (text_of g) text)
      → IsViewed text absence has gives f → FitsEntry (text_of f) text
  viewed_text_fits {f} (Some us) given fits h = fits us f (h.of_list us given)
  viewed_text_fits None given fits h = exactly_text_fits (h.of_none given)

  pub one_viewed : {f g : Formula} (held : Option (List U)) → gives held
      → ((us : List U) (x y : Formula) → has us x → has us y → x ≡ y)
      → IsViewed text absence has gives f → IsViewed text absence has gives g → f ≡ g
  one_viewed {f} {g} (Some us) given one h k =
      one us f g (h.of_list us given) (k.of_list us given)
  one_viewed None given one h k = one_exactly (h.of_none given) (k.of_none given)

-- the one formula, where there is one on each list
abbrev pub viewed_formula : {U : Type 0} → Entry → List Product → (List U → Formula)
    → Option (List U) → Formula
viewed_formula text absence formula_of (Some us) = formula_of us
viewed_formula text absence formula_of None = no_list text absence

-- it is so of what is read of the lists, where each list is read alike
pub has_viewed : {U K : Type 0} (text : Entry) (absence : List Product)
    (has : List U → Formula → Type 0) (gives : Option (List U) → Type 0) (read : List U → List K)
    (formula_of : List K → Formula) (held : Option (List K))
    → ((o : Option (List U)) → gives o → option_map read o ≡ held)
    → ((us : List U) → has us (formula_of (read us)))
    → IsViewed text absence has gives (viewed_formula text absence formula_of held)
has_viewed text absence has gives read formula_of held same had = record {
  of_list = λ us given. subst (λ o. has us (viewed_formula text absence formula_of o))
      (same (Some us) given) (had us);
  of_none = λ given. subst (λ o. IsExactly (no_list text absence)
      (viewed_formula text absence formula_of o)) (same None given) (record { is = refl });
}

-- the members, wherever they lie
abbrev pub members_in : {Item K : Type 0} → (K → List Item) → Listed Item K → List Item
members_in items_of (Slice s) = s.now
members_in items_of (Kept k) = items_of k
