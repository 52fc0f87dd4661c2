-- What is answered of some formulas is answered of fewer of them.
use Rattle.std.proofs.Common.{◌≡◌, Bool, Option, Some, None, Result, Ok, Err, IfOk, subst}
use Rattle.predicates_core.specs.Describe.{CaseNode}
use Rattle.predicates_core.specs.Formula.{Formula, HasTruth}
use Rattle.predicates_core.specs.Kinds.{Kind, reasons, changes}
use Rattle.predicates_core.specs.Shows.{IsCaseBy, IsFoundBy, IsAnswer, IsFound}
use Rattle.predicates_core.specs.Tree.{Tree}
use Rattle.predicates_core.specs.Change.{IsFoundChange}

module _ {A B : Formula → Type 0} {b : Bool} (fewer : (f : Formula) → B f → A f) where
  pub truth_of_fewer : HasTruth A b → HasTruth B b
  truth_of_fewer h = record { at = λ f k. h.at f (fewer f k) }

  pub case_of_fewer : {q : Kind} {t : Tree CaseNode} → IsCaseBy q A b t → IsCaseBy q B b t
  case_of_fewer h = record { truth = truth_of_fewer h.truth; explains = λ f k. h.explains f (fewer f k) }

pub fewer_found : (q : Kind) {A B : Formula → Type 0} (w : Option Bool) (found : Option (Tree CaseNode)) → ((f : Formula) → B f → A f) → IsFoundBy q A w found → IsFoundBy q B w found
fewer_found q (Some b) None fewer h = truth_of_fewer fewer h
fewer_found q (Some b) (Some c) fewer h = case_of_fewer fewer h
fewer_found q None None fewer h = λ f k. h f (fewer f k)
fewer_found q None (Some c) fewer h = case_of_fewer fewer h

pub fewer_found_of : (q : Kind) {A B : Formula → Type 0} {E : Type 0} (w : Option Bool) (r : Result (Option (Tree CaseNode)) E) → ((f : Formula) → B f → A f) → IfOk r (IsFoundBy q A w) → IfOk r (IsFoundBy q B w)
fewer_found_of q w (Ok found) fewer h = fewer_found q w found fewer h
fewer_found_of q w (Err e) fewer h = tt

module _ {A B : Formula → Type 0} {E : Type 0} where
  pub found_of_fewer : (w : Option Bool) (r : Result (Option (Tree CaseNode)) E) → ((f : Formula) → B f → A f) → IfOk r (IsFound A w) → IfOk r (IsFound B w)
  found_of_fewer = fewer_found_of reasons

  pub answer_of_fewer : (b : Bool) (r : Result (Option (Tree CaseNode)) E) → ((f : Formula) → B f → A f) → IfOk r (IsAnswer A b) → IfOk r (IsAnswer B b)
  answer_of_fewer b = fewer_found_of reasons (Some b)

  pub found_change_of_fewer : (w : Option Bool) (r : Result (Option (Tree CaseNode)) E) → ((f : Formula) → B f → A f) → IfOk r (IsFoundChange A w) → IfOk r (IsFoundChange B w)
  found_change_of_fewer = fewer_found_of changes

pub case_with : {q : Kind} {F : Formula → Type 0} {a b : Bool} {t : Tree CaseNode} → a ≡ b → IsCaseBy q F a t → IsCaseBy q F b t
case_with {q} {F} {t = t} e = subst (λ z. IsCaseBy q F z t) e
