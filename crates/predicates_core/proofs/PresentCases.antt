-- Verdicts and cases of a predicate of a value that may be absent, from those of the inner
-- predicate.
use Rattle.std.proofs.Common.{◌≡◌, ℕ, List, refl, sym, Bool, true, false, Option, Some, None, Result, IfOk}
use Rattle.predicates_core.specs.Label.{Entry}
use Rattle.predicates_core.specs.Formula.{Formula, HasTruth}
use Rattle.predicates_core.specs.Kinds.{Kind}
use Rattle.predicates_core.specs.Shows.{IsCaseOf, IsCaseBy, IsFoundBy}
use Rattle.predicates_core.specs.Tree.{Tree}
use Rattle.predicates_core.specs.Describe.{CaseNode}
use Rattle.predicates_core.specs.Leaves.{IsExactly}
use Rattle.predicates_core.specs.Asked.{is_other}
use Rattle.predicates_core.proofs.Found.{other_wanted, case_wanted}
use Rattle.predicates_core.proofs.Fewer.{fewer_found_of}
use Rattle.predicates_core.proofs.ChangeCases.{leaf_case, exact_leaf}
use Rattle.predicates_core.proofs.Leaves.{HasTruth-exactly}
use Rattle.predicates_core.specs.Present.{IsOfPresent, absent_leaf}

module _ {U : Type 0} {text : Entry} {reason : List ℕ} {has : U → Formula → Type 0} {held : Option U} where
  pub HasTruth-present : {b : Bool} {u : U} → held ≡ Some u → HasTruth (has u) b → HasTruth (IsOfPresent text reason has held) b
  HasTruth-present {b} {u} e h = record { at = λ f x. h.at f (x.of_some u e) }

  pub IsCaseOf-present : {q : Kind} {b : Bool} {u : U} {t : Tree CaseNode} → held ≡ Some u → IsCaseBy q (has u) b t → IsCaseBy q (IsOfPresent text reason has held) b t
  IsCaseOf-present {b = b} {u = u} e h = record { truth = HasTruth-present e h.truth; explains = λ f x. h.explains f (x.of_some u e) }

  pub HasTruth-absent : {b : Bool} → held ≡ None → b ≡ false → HasTruth (IsOfPresent text reason has held) b
  HasTruth-absent {b} e isnt = record { at = λ f x. (HasTruth-exactly (sym isnt)).at f (x.of_none e) }

  pub IsCaseOf-absent : {q : Kind} {b : Bool} {t : Tree CaseNode} → held ≡ None → b ≡ false → IsCaseOf (IsExactly (absent_leaf text reason)) false t → IsCaseBy q (IsOfPresent text reason has held) b t
  IsCaseOf-absent {q} {b} e isnt h = record { truth = HasTruth-absent e isnt; explains = λ f x. (leaf_case q exact_leaf h).explains f (x.of_none e) }

-- what is found of it
module _ (q : Kind) {U : Type 0} (text : Entry) (reason : List ℕ) (has : U → Formula → Type 0) (held : Option U) where
  pub found_present : {E : Type 0} {u : U} (w : Option Bool) (r : Result (Option (Tree CaseNode)) E) → held ≡ Some u → IfOk r (IsFoundBy q (has u) w) → IfOk r (IsFoundBy q (IsOfPresent text reason has held) w)
  found_present {u = u} w r e = fewer_found_of q w r (λ f x. x.of_some u e)

  pub none_absent : (w : Option Bool) → held ≡ None → is_other w false ≡ true → IsFoundBy q (IsOfPresent text reason has held) w None
  none_absent w e = other_wanted q w (HasTruth-absent e refl)

  pub case_absent : {t : Tree CaseNode} (w : Option Bool) → held ≡ None → is_other w false ≡ false → IsCaseOf (IsExactly (absent_leaf text reason)) false t → IsFoundBy q (IsOfPresent text reason has held) w (Some t)
  case_absent w e same h = case_wanted {q = q} w (IsCaseOf-absent e refl h) same

pub ruleset present_cases = (HasTruth-present, IsCaseOf-present, HasTruth-absent, IsCaseOf-absent)
