-- What a stored function answers, as the formula of a leaf.
use Rattle.std.specs.Prelude.{◌≡◌, ℕ, Bool, List, Option, Some, codes, ◌++◌}
use Rattle.std.specs.Fn.{Shared, FnReturnsAt}
use Rattle.std.proofs.Common.{sym, ap, ◌∙◌, subst}
use denote.Ref.{Bor}
use Rattle.predicates_core.specs.Label.{plain, FitsEntry}
use Rattle.predicates_core.specs.Formula.{Formula, Leaf, text_of}
use Rattle.predicates_core.specs.LeafLaws.{fits_itself}
use Rattle.predicates_item.specs.declared.function.FnPredicate.{FnPredicate}

-- two answers that the function may give on one item are equal
abbrev pub HasOneAnswer : {F T : Type 0} → Shared F (Bor T × Unit {0}) Bool → F → Type 0
HasOneAnswer {F} {T} calls function = (item : T) (a b : Bool) → FnReturnsAt calls function item a
    → FnReturnsAt calls function item b → a ≡ b

-- a leaf with an answer that the function may give on the item
pub record IsCall {F T : Type 0} (calls : Shared F (Bor T × Unit {0}) Bool) (function : F)
    (text : Option (List ℕ)) (item : T) (leaf : Formula) : Type 0 where
  pub answer : Bool
  pub says : FnReturnsAt calls function item answer
  pub is : leaf ≡ Leaf (plain text) answer

abbrev pub call_text : List ℕ → Option (List ℕ)
call_text name = Some (name ++ codes "(var)")

-- the laws of the trait
module _ {F T : Type 0} {calls : Shared F (Bor T × Unit {0}) Bool} {function : F}
    {text : Option (List ℕ)} {item : T} where
  pub call_text_fits : {leaf : Formula} → IsCall calls function text item leaf
      → FitsEntry (text_of leaf) text
  call_text_fits h = subst (λ l. FitsEntry (text_of l) text) (sym h.is) (fits_itself text)

  pub one_call : {l m : Formula} → HasOneAnswer calls function → IsCall calls function text item l
      → IsCall calls function text item m → l ≡ m
  one_call one h k = h.is ∙ ap (Leaf (plain text)) (one item h.answer k.answer h.says k.says) ∙ sym
      k.is

module _ {F T : Type 0} where
  abbrev pub function_of : FnPredicate F T → F
  function_of p = p.function

  abbrev pub name_of : FnPredicate F T → List ℕ
  name_of p = p.name
