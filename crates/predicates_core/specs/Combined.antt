-- The formulas of the combinators over those of their parts.
use Rattle.std.specs.Prelude.{◌≡◌, ℕ, List, Option, Some, codes}
use Rattle.std.specs.Fmt.{◌++?◌}
use Rattle.predicates_core.specs.Label.{plain}
use Rattle.predicates_core.specs.Formula.{Formula, pair, Not, Named}
use Rattle.predicates_core.specs.declared.custom.join.Operator.{Operator}
use Rattle.predicates_core.specs.declared.custom.join.Operator.TheVariants.{And, Or, Xor}

-- what is printed between two parts
abbrev pub sign : Operator → List ℕ
sign And = codes " && "
sign Or = codes " || "
sign Xor = codes " ^ "

-- the printed text of two parts with an operator between them
abbrev pub infix_text : List ℕ → Option (List ℕ) → Option (List ℕ) → Option (List ℕ)
infix_text operator a b = Some (codes "(") ++? a ++? Some operator ++? b ++? Some (codes ")")

-- the printed text of a part that is turned round
abbrev pub not_text : Option (List ℕ) → Option (List ℕ)
not_text a = Some (codes "(! ") ++? a ++? Some (codes ")")

-- f joins a formula of each of two parts by the operator
pub record IsPair (op : Operator) (text : Option (List ℕ)) (left right : Formula → Type 0)
    (f : Formula) : Type 0 where
  pub left_formula : Formula
  pub right_formula : Formula
  pub of_left : left left_formula
  pub of_right : right right_formula
  pub is : f ≡ pair op (plain text) left_formula right_formula

-- f is `Not` over a formula of the part
pub record IsNot (text : Option (List ℕ)) (part : Formula → Type 0) (f : Formula) : Type 0 where
  pub inner : Formula
  pub of_part : part inner
  pub is : f ≡ Not (plain text) inner

pub record IsNamed (name : List ℕ) (part : Formula → Type 0) (f : Formula) : Type 0 where
  pub inner : Formula
  pub of_part : part inner
  pub is : f ≡ Named (plain (Some name)) name inner
