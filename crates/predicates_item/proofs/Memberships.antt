-- The list that keeps the first of equal items has the same members up to equality.
use Rattle.std.proofs.Common.{◌≡◌, Bool, true, false, ◌||◌, cond, List, [], ◌∷◌, ◌++◌, Option, sym, refl, ap, ◌∙◌, subst}
use Rattle.std.specs.Prelude.{fold}
use Rattle.std.specs.Cmp.{IsEquivalence}
use Rattle.std.specs.List.{list_any}
use Rattle.std.specs.List.Sorted.{IsPermutation}
use Rattle.std.proofs.lemmas.List.Sorted.{list_any-IsPermutation}
use Rattle.std.proofs.lemmas.List.Folds.{list_any-append}
use Rattle.std.proofs.lemmas.Map.Steps.{list_any_congr}
use Rattle.predicates_item.specs.Members.{has_equal, keep_first, first_of_equals, HasSameMembers, GivesItems, KeepsFirst}

or_false : (b : Bool) → (b || false) ≡ b
or_false true = refl
or_false false = refl

or_assoc : (a b c : Bool) → ((a || b) || c) ≡ (a || (b || c))
or_assoc true b c = refl
or_assoc false b c = refl

or_absorb : (a b : Bool) → (b ≡ true → a ≡ true) → a ≡ (a || b)
or_absorb true b h = refl
or_absorb false true h = h refl
or_absorb false false h = refl

module _ {T : Type 0} {eq : T → T → Bool} (laws : IsEquivalence eq) (item : T) where
  swapped : (xs : List T) → has_equal eq xs item ≡ list_any (eq item) xs
  swapped [] = refl
  swapped (x ∷ xs) = λ i. laws.symm x item i || swapped xs i

  one_more : (kept : List T) (x : T) (b : Bool) → list_any (eq x) kept ≡ b → has_equal eq (cond b kept (kept ++ x ∷ [])) item ≡ (has_equal eq kept item || eq x item)
  one_more kept x true there = or_absorb (has_equal eq kept item) (eq x item) (λ e. swapped kept ∙ list_any_congr laws item x kept (laws.symm item x ∙ e) ∙ there)
  one_more kept x false absent = list_any-append (λ member. eq member item) kept (x ∷ []) ∙ ap (λ last. has_equal eq kept item || last) (or_false (eq x item))

  members_from : (xs kept : List T) → has_equal eq (fold (keep_first eq) kept xs) item ≡ (has_equal eq kept item || has_equal eq xs item)
  members_from [] kept = sym (or_false (has_equal eq kept item))
  members_from (x ∷ xs) kept =
      members_from xs (keep_first eq kept x)
      ∙ ap (λ first. first || has_equal eq xs item) (one_more kept x (list_any (eq x) kept) refl)
      ∙ or_assoc (has_equal eq kept item) (eq x item) (has_equal eq xs item)

  pub has_equal-first_of_equals : (xs : List T) → has_equal eq (first_of_equals eq xs) item ≡ has_equal eq xs item
  has_equal-first_of_equals xs = members_from xs []

pub same_first : {T : Type 0} {eq : T → T → Bool} → IsEquivalence eq → (items : List T) → HasSameMembers eq (first_of_equals eq items) items
same_first laws items = record { each = λ item. has_equal-first_of_equals laws item items }

-- what `KeepsFirst` says but for the members
pub record Kept {U S T : Type 0} (becomes : U → S → Type 0) (steps : S → Option T → S → Type 0) (eq : T → T → Bool) (iterable : U) (kept : List T) : Type 0 where
  pub items : List T
  pub given : GivesItems becomes steps iterable items
  pub is : kept ≡ first_of_equals eq items

-- the first of equal items have the members of all
pub keeps_first : {U S T : Type 0} {becomes : U → S → Type 0} {steps : S → Option T → S → Type 0} {eq : T → T → Bool} {iterable : U} {kept : List T} → IsEquivalence eq → Kept becomes steps eq iterable kept → KeepsFirst becomes steps eq iterable kept
keeps_first {eq = eq} laws first = record {
  items = first.items;
  given = first.given;
  is = first.is;
  same = subst (λ xs. HasSameMembers eq xs first.items) (sym first.is) (same_first laws first.items);
}

-- a list that is rearranged keeps its members
pub same_rearranged : {T : Type 0} {eq : T → T → Bool} {xs ys : List T} → IsPermutation xs ys → HasSameMembers eq ys xs
same_rearranged {eq = eq} {xs = xs} {ys = ys} moved = record { each = λ item. sym (list_any-IsPermutation (λ member. eq member item) xs ys moved) }
