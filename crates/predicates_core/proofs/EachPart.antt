-- The descriptions of a list's members, one more at a time.
use Rattle.std.proofs.Common.{◌≡◌, ℕ, ◌+◌, ◌<◌, List, [], ◌∷◌, ◌++◌, length, take, get_or, sym, ap, ◌∙◌, subst}
use Rattle.std.proofs.lemmas.List.{take_more}
use Rattle.predicates_core.specs.Label.{Entry, Product}
use Rattle.predicates_core.specs.Tree.{Forest, forest}
use Rattle.predicates_core.specs.Describe.{NamedChild}
use Rattle.predicates_core.specs.Parts.{Part, FitsParts, IsPart, part_of_each}

module _ {U : Type 0} (name : List ℕ) (text : U → Entry) (parameters : U → List Product) (below : U → Forest Part) where
  fits_last : (us : List U) (u : U) (cs : List NamedChild) (c : NamedChild) → FitsParts (part_of_each name text parameters below us) (forest cs) → IsPart name (text u) (parameters u) (below u) c
      → FitsParts (part_of_each name text parameters below (us ++ u ∷ [])) (forest (cs ++ c ∷ []))
  fits_last [] u [] c h p = (p.named, p.printed, p.given, p.parts, tt)
  fits_last [] u (d ∷ cs) c h p = absurd h
  fits_last (v ∷ us) u [] c h p = absurd h
  fits_last (v ∷ us) u (d ∷ cs) c h p = (h.0, h.1, h.2, h.3, fits_last us u cs c h.4 p)

  pub fits_more : (us : List U) (k : ℕ) (u : U) (cs : List NamedChild) (c : NamedChild) → k < length us → u ≡ get_or us k u → FitsParts (part_of_each name text parameters below (take k us)) (forest cs) → IsPart name (text u) (parameters u) (below u) c
      → FitsParts (part_of_each name text parameters below (take (k + 1) us)) (forest (cs ++ c ∷ []))
  fits_more us k u cs c within is h p =
      subst (λ z. FitsParts (part_of_each name text parameters below z) (forest (cs ++ c ∷ []))) (ap (λ z. take k us ++ z ∷ []) is ∙ sym (take_more us k u within)) (fits_last (take k us) u cs c h p)
