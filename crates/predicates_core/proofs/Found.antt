-- What is found where a truth is wanted, or the case of whichever the formulas have.
use Rattle.std.proofs.Common.{◌≡◌, ℕ, Bool, true, false, List, [], ◌∷◌, Option, Some, None, codes, option_map, sym, ◌∙◌, subst, arith}
use Rattle.std.specs.Prelude.{not}
use Rattle.predicates_core.specs.Label.{Fits}
use Rattle.predicates_core.specs.Formula.{Formula, Leaf, Join, Not, Named, AtLeast, differ, truth, HasTruth}
use Rattle.predicates_core.specs.Tree.{Tree}
use Rattle.predicates_core.specs.Describe.{CaseNode}
use Rattle.predicates_core.specs.Kinds.{Kind, reasons}
use Rattle.predicates_core.specs.Shows.{Shows, IsCaseBy, IsFoundBy, IsAnswer, IsFound, IsNode}
use Rattle.predicates_core.specs.Combined.{IsNot, IsNamed}
use Rattle.predicates_core.specs.Asked.{shown_verdict, is_other}
use Rattle.predicates_core.proofs.BothKinds.{never_turned}
use Rattle.predicates_core.proofs.Values.{not-not, truth-Leaf}
use Rattle.predicates_core.proofs.CombinedLemmas.{HasTruth-not, HasTruth-named, IsCaseOf-not, IsCaseOf-named}

abbrev pub Found : Type 0
Found = Option (Tree CaseNode)

-- a truth and its opposite: there is no formula
pub no_formula : {F : Formula → Type 0} {a : Bool} → HasTruth F a → HasTruth F (not a) → (f : Formula) → F f → ⊥
no_formula {a} h k f of_f = never_turned a (sym (h.at f of_f) ∙ k.at f of_f)

pub truth_of_none : {F : Formula → Type 0} {b : Bool} → ((f : Formula) → F f → ⊥) → HasTruth F b
truth_of_none none = record { at = λ f h. absurd (none f h) }

pub case_of_none : {q : Kind} {F : Formula → Type 0} {b : Bool} {t : Tree CaseNode} → ((f : Formula) → F f → ⊥) → IsCaseBy q F b t
case_of_none none = record { truth = truth_of_none none; explains = λ f h. absurd (none f h) }

-- a case has the truth as its result
pub result_shown : (q : Kind) (f : Formula) (t : Tree CaseNode) (s : List ℕ) → Shows q f t s → t.root.result ≡ truth f
unfolding Shows
result_shown q (Leaf label own) t s h = h.0.result ∙ sym (truth-Leaf label own)
result_shown q (Join op label fs) t s h = h.0.result
result_shown q (Not label f) t s h = h.0.result
result_shown q (Named label name f) t s h = h.0.result
result_shown q (AtLeast k label fs) t s h = h.0.result

pub case_by_result : {q : Kind} {F : Formula → Type 0} {b : Bool} {t : Tree CaseNode} → IsCaseBy q F b t → IsCaseBy q F t.root.result t
case_by_result {q} {t = t} c = record { truth = record { at = λ f h. sym (result_shown q f t (c.explains f h).leaves (c.explains f h).shown) }; explains = c.explains }

-- its opposite was asked for, and not found
pub found_false : {F : Formula → Type 0} (found : Found) → HasTruth F false → IsAnswer F false found → IsFound F None found
found_false None t x = no_formula t x
found_false (Some case) t x = case_by_result x

pub is_opposite : (e h : Bool) → differ e h ≡ true → h ≡ not e
is_opposite e h is = grind arith

pub is_same : (e h : Bool) → differ e h ≡ false → h ≡ e
is_same e h is = grind arith

-- the case is wanted
pub case_wanted : {q : Kind} {F : Formula → Type 0} (w : Option Bool) {h : Bool} {t : Tree CaseNode} → IsCaseBy q F h t → is_other w h ≡ false → IsFoundBy q F w (Some t)
case_wanted {q} {F} (Some e) {h} {t} x is = subst (λ b. IsCaseBy q F b t) (is_same e h is) x
case_wanted None x is = case_by_result x

module _ (q : Kind) where
  pub truth_found : {F : Formula → Type 0} (w : Option Bool) (found : Found) → IsFoundBy q F w found → HasTruth F (shown_verdict w found)
  truth_found (Some e) None x = x
  truth_found (Some e) (Some t) x = x.truth
  truth_found None (Some t) x = x.truth
  truth_found None None x = truth_of_none x

  pub case_found : {F : Formula → Type 0} (w : Option Bool) (t : Tree CaseNode) → IsFoundBy q F w (Some t) → IsCaseBy q F (shown_verdict w (Some t)) t
  case_found (Some e) t x = x
  case_found None t x = x

  -- another truth is wanted than the predicate has
  pub other_wanted : {F : Formula → Type 0} (w : Option Bool) {h : Bool} → HasTruth F h → is_other w h ≡ true → IsFoundBy q F w None
  other_wanted {F} (Some e) {h} t is = subst (HasTruth F) (is_opposite e h is) t
  other_wanted None t is = absurd (cc)

  -- ---- one part

  module _ (part : Formula → Type 0) (text : Option (List ℕ)) where
    pub nothing_of_not : (w : Option Bool) → IsFoundBy q part (option_map not w) None → IsFoundBy q (IsNot text part) w None
    nothing_of_not (Some e) x = HasTruth-not x (sym (not-not (not e)))
    nothing_of_not None x = λ f h. x h.inner h.of_part

    pub found_of_not : {bytes : List ℕ} {c t : Tree CaseNode} (w : Option Bool) → IsNode (Some bytes) (not c.root.result) ((codes "predicate", c) ∷ []) t → Fits text bytes → IsFoundBy q part (option_map not w) (Some c) → IsFoundBy q (IsNot text part) w (Some t)
    found_of_not {c = c} {t = t} (Some e) written fits x = record {
      truth = HasTruth-not x.truth (sym (not-not e));
      explains = (IsCaseOf-not {b = not c.root.result} written fits (subst (λ b. IsCaseBy q part b c) (sym (not-not c.root.result)) (case_by_result x))).explains;
    }
    found_of_not {c = c} {t = t} None written fits x = case_by_result (IsCaseOf-not {b = not c.root.result} written fits (subst (λ b. IsCaseBy q part b c) (sym (not-not c.root.result)) x))

  module _ (part : Formula → Type 0) (name : List ℕ) where
    pub nothing_of_named : (w : Option Bool) → IsFoundBy q part w None → IsFoundBy q (IsNamed name part) w None
    nothing_of_named (Some e) x = HasTruth-named x
    nothing_of_named None x = λ f h. x h.inner h.of_part

    pub found_of_named : {bytes : List ℕ} {c t : Tree CaseNode} (w : Option Bool) → IsNode (Some bytes) c.root.result ((name, c) ∷ []) t → Fits (Some name) bytes → IsFoundBy q part w (Some c) → IsFoundBy q (IsNamed name part) w (Some t)
    found_of_named (Some e) written fits x = record { truth = HasTruth-named x.truth; explains = (IsCaseOf-named written fits (case_by_result x)).explains }
    found_of_named None written fits x = case_by_result (IsCaseOf-named written fits x)

pub none_wanted : {F : Formula → Type 0} (w : Option Bool) {h : Bool} → HasTruth F h → is_other w h ≡ true → IsFound F w None
none_wanted = other_wanted reasons
