-- An adapter answers as its part does on the view.
use Rattle.std.proofs.Common.{◌≡◌, refl, sym, subst, ℕ, Bool, true, false, List, Option, None, Some, Result, Ok, Err}
use Rattle.std.specs.Prelude.{IfOk, codes, string_bytes}
use Rattle.std.specs.Str.{IsUtf8}
use Rattle.predicates_core.specs.Text.{Text}
use Rattle.predicates_core.specs.Formula.{Formula, HasTruth}
use Rattle.predicates_core.specs.Tree.{Tree}
use Rattle.predicates_core.specs.Describe.{CaseNode}
use Rattle.predicates_core.specs.Kinds.{Kind}
use Rattle.predicates_core.specs.Shows.{IsCaseOf, IsAnswer, IsFound, IsFoundBy}
use Rattle.predicates_core.specs.Change.{IsFoundChange}
use Rattle.predicates_core.specs.Leaves.{IsExactly, IsShowing}
use Rattle.predicates_core.specs.Asked.{is_other}
use Rattle.predicates_core.proofs.Leaves.{HasTruth-exactly}
use Rattle.predicates_core.proofs.Added.{HasTruth-with_product, IsCaseOf-with_product, nothing_with_product, found_with_product}
use Rattle.predicates_core.proofs.Fewer.{case_of_fewer, fewer_found, found_of_fewer, found_change_of_fewer}
use Rattle.predicates_core.proofs.Found.{other_wanted, case_wanted}
use Rattle.predicates_core.proofs.ChangeCases.{exact_leaf, leaf_case}
use Rattle.predicates_text.specs.ViewFormulas.{IsOfEach, IsDecoded, undecoded}

module _ {has : Text → Formula → Type 0} {viewed : Text → Type 0} where
  pub HasTruth-each : {b : Bool} (t : Text) → viewed t → HasTruth (has t) b → HasTruth (IsOfEach has viewed) b
  HasTruth-each t is h = record { at = λ f p. h.at f (p.each t is) }

  pub IsCaseOf-each : {b : Bool} {c : Tree CaseNode} (t : Text) → viewed t → IsCaseOf (has t) b c → IsCaseOf (IsOfEach has viewed) b c
  IsCaseOf-each t is h = record { truth = HasTruth-each t is h.truth; explains = λ f p. h.explains f (p.each t is) }

answer-each : (has : Text → Formula → Type 0) (viewed : Text → Type 0) (t : Text) (expected : Bool) (found : Option (Tree CaseNode)) → viewed t → IsAnswer (has t) expected found → IsAnswer (IsOfEach has viewed) expected found
answer-each has viewed t expected None is h = HasTruth-each t is h
answer-each has viewed t expected (Some c) is h = IsCaseOf-each t is h

pub eval-each : {E : Type 0} (has : Text → Formula → Type 0) (viewed : Text → Type 0) (t : Text) (r : Result Bool E) → viewed t → IfOk r (HasTruth (has t)) → IfOk r (HasTruth (IsOfEach has viewed))
eval-each has viewed t (Ok b) is h = HasTruth-each t is h
eval-each has viewed t (Err e) is h = tt

pub find-each : {E : Type 0} (has : Text → Formula → Type 0) (viewed : Text → Type 0) (t : Text) (expected : Bool) (r : Result (Option (Tree CaseNode)) E) → viewed t → IfOk r (IsAnswer (has t) expected) → IfOk r (IsAnswer (IsOfEach has viewed) expected)
find-each has viewed t expected (Ok found) is h = answer-each has viewed t expected found is h
find-each has viewed t expected (Err e) is h = tt

pub explain-each : {E : Type 0} (has : Text → Formula → Type 0) (viewed : Text → Type 0) (t : Text) (w : Option Bool) (r : Result (Option (Tree CaseNode)) E) → viewed t → IfOk r (IsFound (has t) w) → IfOk r (IsFound (IsOfEach has viewed) w)
explain-each has viewed t w r is = found_of_fewer w r (λ f p. p.each t is)

pub change-each : {E : Type 0} (has : Text → Formula → Type 0) (viewed : Text → Type 0) (t : Text) (w : Option Bool) (r : Result (Option (Tree CaseNode)) E) → viewed t → IfOk r (IsFoundChange (has t) w) → IfOk r (IsFoundChange (IsOfEach has viewed) w)
change-each has viewed t w r is = found_change_of_fewer w r (λ f p. p.each t is)

pub ruleset adapters = (eval-each, find-each, explain-each, change-each)

-- ---- bytes

module _ {text : Option (List ℕ)} {has : Text → Formula → Type 0} {bytes : List ℕ} where
  pub HasTruth-decoded : {b : Bool} (t : Text) → string_bytes t ≡ bytes → HasTruth (has t) b → HasTruth (IsDecoded text has bytes) b
  HasTruth-decoded t e h = record { at = λ f p. (HasTruth-with_product h).at f (p.of_text t e) }

  pub IsCaseOf-decoded : {b : Bool} {c d : Tree CaseNode} (t : Text) → string_bytes t ≡ bytes → IsShowing (codes "var as str") (Some (string_bytes t)) c d → IsCaseOf (has t) b c → IsCaseOf (IsDecoded text has bytes) b d
  IsCaseOf-decoded {b} {c} {d} t e s h = record {
    truth = HasTruth-decoded t e h.truth;
    explains = λ f p. (IsCaseOf-with_product (subst (λ bs. IsShowing (codes "var as str") (Some bs) c d) e s) h).explains f (p.of_text t e);
  }

  pub HasTruth-undecoded : {b : Bool} → ¬ (IsUtf8 bytes) → b ≡ false → HasTruth (IsDecoded text has bytes) b
  HasTruth-undecoded n e = record { at = λ f p. (HasTruth-exactly (sym e)).at f (p.of_other n) }

  pub IsCaseOf-undecoded : {b : Bool} {d : Tree CaseNode} → ¬ (IsUtf8 bytes) → b ≡ false → IsCaseOf (IsExactly (undecoded text)) false d → IsCaseOf (IsDecoded text has bytes) b d
  IsCaseOf-undecoded n e h = record { truth = HasTruth-undecoded n e; explains = λ f p. h.explains f (p.of_other n) }

-- what is found of them
module _ (q : Kind) (text : Option (List ℕ)) (has : Text → Formula → Type 0) (bytes : List ℕ) where
  pub none_decoded : (w : Option Bool) (t : Text) → string_bytes t ≡ bytes → IsFoundBy q (has t) w None → IsFoundBy q (IsDecoded text has bytes) w None
  none_decoded w t e x = fewer_found q w None (λ f p. p.of_text t e) (nothing_with_product q _ _ _ w x)

  pub case_decoded : (w : Option Bool) (t : Text) {c d : Tree CaseNode} → string_bytes t ≡ bytes → IsShowing (codes "var as str") (Some (string_bytes t)) c d → IsFoundBy q (has t) w (Some c) → IsFoundBy q (IsDecoded text has bytes) w (Some d)
  case_decoded w t {c} {d} e s x = fewer_found q w (Some d) (λ f p. p.of_text t e) (found_with_product q _ _ _ w (subst (λ bs. IsShowing (codes "var as str") (Some bs) c d) e s) x)

  pub none_undecoded : (w : Option Bool) → ¬ (IsUtf8 bytes) → is_other w false ≡ true → IsFoundBy q (IsDecoded text has bytes) w None
  none_undecoded w n = other_wanted q w (HasTruth-undecoded n refl)

  pub case_undecoded : (w : Option Bool) {d : Tree CaseNode} → ¬ (IsUtf8 bytes) → is_other w false ≡ false → IsCaseOf (IsExactly (undecoded text)) false d → IsFoundBy q (IsDecoded text has bytes) w (Some d)
  case_undecoded w n same h = case_wanted {q = q} w (case_of_fewer (λ f p. p.of_other n) (leaf_case q exact_leaf h)) same

pub ruleset decoding = (HasTruth-decoded, IsCaseOf-decoded, HasTruth-undecoded, IsCaseOf-undecoded)
