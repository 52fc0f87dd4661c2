-- What a predicate answers of the one part is the truth of the whole, and its case explains it.
use Rattle.std.proofs.Common.{Bool, refl, subst}
use Rattle.std.proofs.lemmas.Fn.{says_at}
use Rattle.std.specs.Fn.{Shared}
use denote.Ref.{Bor}
use Rattle.predicates_core.specs.Formula.{Formula, HasTruth}
use Rattle.predicates_part.specs.Part.{HasOnePart, IsOfPart}

module _ {F T R U : Type 0} {calls : Shared F (Bor T × Unit {0}) R} {read : R → U} {function : F} {item : Bor T} {r : R} {has : U → Formula → Type 0} where
  pub on_part : HasOnePart calls read function → calls.post function (item, tt) r → (f : Formula) → IsOfPart calls read function has item.now f → has (read r) f
  on_part one given f h = subst (λ v. has v f) (one item.now h.given r h.returns (says_at calls given refl)) h.of_part

  pub HasTruth-part : {b : Bool} → HasOnePart calls read function → calls.post function (item, tt) r → HasTruth (has (read r)) b → HasTruth (IsOfPart calls read function has item.now) b
  HasTruth-part one given h = record { at = λ f k. h.at f (on_part one given f k) }

pub ruleset parts = (HasTruth-part)
