-- A part that a stored function gives of an item, and the formulas of a predicate of it.
use Rattle.std.specs.Prelude.{◌≡◌}
use Rattle.std.specs.Fn.{Shared, FnReturnsAt}
use Rattle.std.proofs.Common.{subst}
use denote.Ref.{Bor}
use Rattle.predicates_core.specs.Formula.{Formula}
use Rattle.predicates_core.specs.Name as Name
use Rattle.predicates_core.specs.declared.name.NamePredicate.{NamePredicate}
use Rattle.predicates_part.specs.declared.part.PartPredicate.{PartPredicate}

-- the part that a function gives by value, and the one behind a reference that it gives
abbrev pub owned : {U : Type 0} → U → U
owned u = u

abbrev pub borrowed : {U : Type 0} → Bor U → U
borrowed r = r.now

-- two parts that the function may give of one item are equal
abbrev pub HasOnePart : {F T R U : Type 0} → Shared F (Bor T × Unit {0}) R → (R → U) → F → Type 0
HasOnePart {F} {T} {R} {U} calls read function = (item : T) (a b : R)
    → FnReturnsAt calls function item a → FnReturnsAt calls function item b → read a ≡ read b

-- the predicate of parts is infallible on what the function may give of the item
abbrev pub IsInfallibleOnPart : {F T R U : Type 0} → Shared F (Bor T × Unit {0}) R → (R → U) → F
    → (U → Type 0) → T → Type 0
IsInfallibleOnPart {F} {T} {R} {U} calls read function infallible item = (shown : Bor T) (r : R)
    → shown.now ≡ item → calls.post function (shown, tt) r → infallible (read r)

-- f is a formula on a part that the function may give of the item
pub record IsOfPart {F T R U : Type 0} (calls : Shared F (Bor T × Unit {0}) R) (read : R → U)
    (function : F) (has : U → Formula → Type 0) (item : T) (f : Formula) : Type 0 where
  pub given : R
  pub returns : FnReturnsAt calls function item given
  pub of_part : has (read given) f

module _ {F T R U : Type 0} {calls : Shared F (Bor T × Unit {0}) R} {read : R → U} {function : F}
    {has : U → Formula → Type 0} {item : T} where
  pub one_of_part : {f g : Formula} → HasOnePart calls read function
      → ((u : U) (x y : Formula) → has u x → has u y → x ≡ y)
      → IsOfPart calls read function has item f → IsOfPart calls read function has item g → f ≡ g
  one_of_part {f} {g} one unique h k = unique (read k.given) f g
      (subst (λ u. has u f) (one item h.given k.given h.returns k.returns) h.of_part) k.of_part

module _ {P F U Access : Type 0} where
  abbrev pub part_inner_of : PartPredicate P F U Access → P
  part_inner_of p = p.inner

  abbrev pub part_function_of : PartPredicate P F U Access → F
  part_function_of p = p.function

-- of the part under its name
module _ {P F T U N Access : Type 0} where
  abbrev pub inner_of : NamePredicate (PartPredicate P F U Access) T N → P
  inner_of p = part_inner_of (Name.inner_of p)

  abbrev pub function_of : NamePredicate (PartPredicate P F U Access) T N → F
  function_of p = part_function_of (Name.inner_of p)

  abbrev pub name_of : NamePredicate (PartPredicate P F U Access) T N → N
  name_of p = Name.name_of p
