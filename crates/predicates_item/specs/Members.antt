-- Membership by any lawful equality, and the items that an iterator gives.
use Rattle.std.specs.Prelude.{◌≡◌, ℕ, Bool, List, [], ◌∷◌, ◌++◌, Option, Some, if◌then◌else◌, fold}
use Rattle.std.specs.Prelude.{codes, string_bytes}
use Rattle.std.specs.Iterator.{Drains}
use Rattle.std.specs.List.{list_any}
use Rattle.std.specs.Str.{bytes_eq}
use Rattle.predicates_core.specs.Label.{showing}
use Rattle.predicates_core.specs.Formula.{Formula, Leaf}
use Rattle.predicates_core.specs.Text.{Text}

-- some member equals the item
abbrev pub has_equal : {T : Type 0} → (T → T → Bool) → List T → T → Bool
has_equal eq members item = list_any (λ member. eq member item) members

-- each item is a member of both, or of neither
pub record HasSameMembers {T : Type 0} (eq : T → T → Bool) (xs ys : List T) : Type 0 where
  pub each : (item : T) → has_equal eq xs item ≡ has_equal eq ys item

-- the item goes last, unless an earlier one equals it
abbrev pub keep_first : {T : Type 0} → (T → T → Bool) → List T → T → List T
keep_first eq kept item = if list_any (eq item) kept then kept else kept ++ item ∷ []

-- the items in order, but for each that equals an earlier one
abbrev pub first_of_equals : {T : Type 0} → (T → T → Bool) → List T → List T
first_of_equals eq items = fold (keep_first eq) [] items

-- an iterator of the value gives the items in order, and then ends
pub record GivesItems {U S T : Type 0} (becomes : U → S → Type 0)
    (steps : S → Option T → S → Type 0) (iterable : U) (items : List T) : Type 0 where
  pub from : S
  pub made : becomes iterable from
  pub drained : Drains steps from items

-- of the items that an iterator of the value gives, the first of equal ones are kept, in order;
-- they have the members of all of them
pub record KeepsFirst {U S T : Type 0} (becomes : U → S → Type 0)
    (steps : S → Option T → S → Type 0) (eq : T → T → Bool) (iterable : U) (kept : List T) : Type 0
  where
    pub items : List T
    pub given : GivesItems becomes steps iterable items
    pub is : kept ≡ first_of_equals eq items
    pub same : HasSameMembers eq kept items

-- some text has the bytes
abbrev pub has_text : List Text → List ℕ → Bool
has_text texts bytes = list_any (λ text. bytes_eq (string_bytes text) bytes) texts

-- the printed text of each of the memberships
abbrev pub member_text : Option (List ℕ)
member_text = Some (codes "var in values")

-- the leaf of each of the memberships, from what the item shows and whether it is a member
abbrev pub member_leaf : Option (List ℕ) → Bool → Formula
member_leaf shown holds = Leaf (showing member_text (codes "var") shown) holds
