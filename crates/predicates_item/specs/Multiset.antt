-- Lists as multisets: what they have in common, in whichever order, and what each has beyond.
use Rattle.std.specs.Prelude.{◌≡◌, ℕ, Bool, List, [], ◌∷◌, ◌++◌, map, Option, Some, codes, ◌==◌}
use Rattle.std.specs.Prelude.{if◌then◌else◌}
use denote.Ref.{Bor}
use Rattle.std.specs.Fmt.{debug_list}
use Rattle.std.specs.List.{count_by, list_all}
use Rattle.std.specs.Ordering.{is_lt}
use Rattle.std.specs.declared.cmp.Ordering.{Ordering}
use Rattle.std.specs.declared.cmp.Ordering.TheVariants.{Less}
use Rattle.std.specs.declared.cmp.Ord as Ord
use Rattle.std.specs.declared.cmp.PartialEq as PartialEq
use Rattle.std.specs.declared.cmp.PartialOrd as PartialOrd
use Rattle.predicates_core.specs.Label.{Entry, showing_both}
use Rattle.predicates_core.specs.Formula.{Formula, Leaf}
use Rattle.predicates_item.specs.Members.{GivesItems, has_equal}
use Rattle.predicates_item.specs.declared.iter.multiset.SameMembersPredicate.{SameMembersPredicate}

module _ {T : Type 0} where
  -- how many members equal the item
  abbrev pub count_of : (T → T → Bool) → List T → T → ℕ
  count_of eq members item = count_by (λ member. eq member item) members

  -- each member of either list is in both equally often
  abbrev pub has_same_counts : (T → T → Bool) → List T → List T → Bool
  has_same_counts eq xs ys = list_all (λ item. count_of eq xs item == count_of eq ys item)
      (xs ++ ys)

  -- the members but for the first that equals the item
  abbrev pub without_one : (T → T → Bool) → List T → T → List T
  without_one eq [] item = []
  without_one eq (x ∷ xs) item = if eq x item then xs else x ∷ without_one eq xs item

  -- the members of the first list that remain, in order, once each member of the second has taken
  -- away the first that equals it
  abbrev pub difference : (T → T → Bool) → List T → List T → List T
  difference eq [] ys = []
  difference eq (x ∷ xs) ys = if has_equal eq ys x then difference eq xs (without_one eq ys x)
      else x ∷ difference eq xs ys

  -- the item in front of the first member that is not less
  abbrev pub placed : (T → T → Ordering) → T → List T → List T
  placed cmp item [] = item ∷ []
  placed cmp item (x ∷ xs) = if is_lt (cmp x item) then x ∷ placed cmp item xs else item ∷ x ∷ xs

  -- the members in ascending order, equal ones in the order that they have
  abbrev pub ascending : (T → T → Ordering) → List T → List T
  ascending cmp [] = []
  ascending cmp (x ∷ xs) = placed cmp x (ascending cmp xs)

-- the order of the first members of two lists, where the end of the second is above all
abbrev pub order_to : {T : Type 0} → (T → T → Ordering) → List T → List T → Ordering
order_to cmp [] ys = Less
order_to cmp (x ∷ xs) [] = Less
order_to cmp (x ∷ xs) (y ∷ ys) = cmp x y

-- what the references refer to
abbrev pub referred : {T : Type 0} → List (Bor T) → List T
referred = map (λ r. r.now)

-- the items that an iterator of the value gives are kept in ascending order
pub record KeepsAscending {U S T : Type 0} (becomes : U → S → Type 0)
    (steps : S → Option T → S → Type 0) (cmp : T → T → Ordering) (iterable : U) (kept : List T)
    : Type 0 where
  pub items : List T
  pub given : GivesItems becomes steps iterable items
  pub is : kept ≡ ascending cmp items

abbrev pub multiset_text : Entry
multiset_text = Some (codes "var == values in any order")

-- the leaf of a predicate of these members on a list: which of its members the list lacks, and
-- which the list has beyond them, both in ascending order
abbrev pub multiset_leaf : {T : Type 0} → (T → T → Bool) → (T → T → Ordering) → (T → Entry)
    → List T → List T → Formula
multiset_leaf eq cmp text members list = Leaf
    (showing_both multiset_text
    (codes "missing") (debug_list text (difference eq members list))
    (codes "extra") (debug_list text (difference eq (ascending cmp list) members)))
    (has_same_counts eq members list)

module _ {T : Type 0} {order : Ord.Ghosts T} {equality : PartialEq.Ghosts T}
    {partial : PartialOrd.Ghosts T} where
  abbrev pub members_of : SameMembersPredicate T order equality partial → List T
  members_of p = p.members.items
