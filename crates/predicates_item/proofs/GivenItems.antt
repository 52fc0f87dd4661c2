-- Which items a value gives, for callers that know what its iterator yields.
use Rattle.std.proofs.Common.{◌≡◌, Bool, List, Option, Ordering, sym, ap, subst, ◌∙◌}
use Rattle.std.specs.Iterator.{DrainsIf}
use Rattle.std.proofs.lemmas.Iterator.{YieldsList, items_from_drains}
use Rattle.std.proofs.lemmas.List.{map-id}
use Rattle.predicates_item.specs.Multiset.{KeepsAscending, ascending}
use Rattle.predicates_item.specs.Members.{GivesItems, KeepsFirst, first_of_equals}

module _ {U S T : Type 0} {becomes : U → S → Type 0} {steps : S → Option T → S → Type 0} {iterable : U} (all : List T) (known : (from : S) → becomes iterable from → YieldsList steps (λ x. x) from all) where
  pub items_from_gives : {items : List T} → GivesItems becomes steps iterable items → items ≡ all
  items_from_gives {items} given =
      sym (map-id items) ∙ items_from_drains items (given.drained.1.0, given.drained.1.1, λ _. (given.drained.0, given.drained.1.2)) (known given.from given.made)

  pub kept_from_gives : {eq : T → T → Bool} {kept : List T} → KeepsFirst becomes steps eq iterable kept → kept ≡ first_of_equals eq all
  kept_from_gives {eq} keeps = keeps.is ∙ ap (first_of_equals eq) (items_from_gives keeps.given)

  pub ascending_from_gives : {cmp : T → T → Ordering} {kept : List T} → KeepsAscending becomes steps cmp iterable kept → kept ≡ ascending cmp all
  ascending_from_gives {cmp} keeps = keeps.is ∙ ap (ascending cmp) (items_from_gives keeps.given)

module _ {U S T : Type 0} {becomes : U → S → Type 0} {steps : S → Option T → S → Type 0} {iterable : U} where
  -- what an iterator of the value gave, to its end, is what the value gives
  pub gives_collected : {W : Type 0} {members : List T} (from : S) (items : List T) → becomes iterable from → DrainsIf steps W from items → W → members ≡ items → GivesItems becomes steps iterable members
  gives_collected from items made drains whole are =
      let last = drains.2 whole in
      subst (GivesItems becomes steps iterable) (sym are) (record { from = from; made = made; drained = (last.0, (drains.0, drains.1, last.1)) })
