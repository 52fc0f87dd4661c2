-- What does not change where the root's text is left open.
use Rattle.std.proofs.Common.{◌≡◌, refl, sym, ap, ◌∙◌, subst, ℕ, Bool, true, false, cond, List, Option, None, Some, Result, Ok, Err}
use Rattle.std.specs.Prelude.{not, IfOk, string_bytes}
use Rattle.std.proofs.lemmas.Slice.Eq.{bytes_eq-Decides}
use Rattle.predicates_core.specs.Label.{Label, Entry, Fits}
use Rattle.predicates_core.specs.Formula.{Formula, Leaf, Join, Not, Named, AtLeast, needed, number_of_parts, text_of, value, actual, truth, HasTruth}
use Rattle.predicates_core.specs.Kinds.{Kind, reasons, changes}
use Rattle.predicates_core.specs.Shows.{FitsNode, Shows, ShowsParts, tells_numbers, ExplainsBy, IsCaseBy, IsFoundBy, IsAnswer, IsFound}
use Rattle.predicates_core.specs.Tree.{Tree}
use Rattle.predicates_core.specs.Describe.{CaseNode}
use Rattle.predicates_core.specs.Leaves.{IsExactly}
use Rattle.predicates_core.specs.Change.{IsFoundChange}
use Rattle.predicates_core.proofs.BothKinds.{Carries, carried_truth, same_first}
use Rattle.predicates.specs.Printed.{opened, opened_label, fits, as_printed, IsPrintedAs, FitsRoots, HasFormulas}

-- ---- the printed text

test-from_fits : (entry : Entry) (bytes : List ℕ) → Fits entry bytes → fits entry bytes ≡ true
test-from_fits None bytes h = refl
test-from_fits (Some given) bytes h = (bytes_eq-Decides bytes given).1 h

-- where the kept text fits the formula of what is held, it is that of the box
as_printed-fits : (bytes : List ℕ) (f : Formula) → Fits (text_of f) bytes → as_printed bytes f ≡ f
as_printed-fits bytes f h = rw (test-from_fits (text_of f) bytes h) refl

-- ---- the truth, the reasons and the cases

opened_carries : (f : Formula) → Carries false f (opened f)
unfolding actual value
opened_carries (Leaf label own) = record { leaves = refl; values = λ w e. refl }
opened_carries (Join op label fs) = record { leaves = refl; values = λ w e. refl }
opened_carries (Not label f) = record { leaves = refl; values = λ w e. refl }
opened_carries (Named label name f) = record { leaves = refl; values = λ w e. refl }
opened_carries (AtLeast k label fs) = record { leaves = refl; values = λ w e. refl }

truth-opened : (f : Formula) → truth f ≡ truth (opened f)
truth-opened f = sym (carried_truth (opened_carries f))

node-opened : (label : Label) (b c : Bool) (node : CaseNode) → b ≡ c → FitsNode label b node → FitsNode (opened_label label) c node
node-opened label b c node e n = record { text = (n.text.0, n.text.1, tt); result = n.result ∙ e; products = n.products }

shows-opened : (q : Kind) (f : Formula) (t : Tree CaseNode) (leaves : List ℕ) → Shows q f t leaves → Shows q (opened f) t leaves
unfolding Shows
shows-opened q (Leaf label own) t leaves h = (node-opened label _ _ t.root refl h.0, h.1, h.2)
shows-opened q (Join op label fs) t leaves h = (node-opened label _ _ t.root (truth-opened (Join op label fs)) h.0, h.1)
shows-opened q (Not label f) t leaves h = (node-opened label _ _ t.root (truth-opened (Not label f)) h.0, h.1)
shows-opened q (Named label name f) t leaves h = (node-opened label _ _ t.root (truth-opened (Named label name f)) h.0, h.1)
shows-opened q (AtLeast k label fs) t leaves h =
    let e = truth-opened (AtLeast k label fs) in
    (node-opened label _ _ t.root e h.0, subst (λ b. ShowsParts q (tells_numbers q b (needed k fs) (number_of_parts fs)) 0 fs t.children leaves) e h.1)

explains-opened : (q : Kind) (f : Formula) (t : Tree CaseNode) → ExplainsBy q f t → ExplainsBy q (opened f) t
explains-opened q f t h = record {
  leaves = h.leaves;
  first = same_first q (opened_carries f) h.leaves h.first;
  shown = shows-opened q f t h.leaves h.shown;
}

truth-as_printed : (bytes : List ℕ) (f : Formula) → truth (as_printed bytes f) ≡ truth f
truth-as_printed bytes f = elim (fits (text_of f) bytes) as (λ b. truth (cond b f (opened f)) ≡ truth f) [ true ↦ refl | false ↦ sym (truth-opened f) ]

explains-as_printed : (q : Kind) (bytes : List ℕ) (f : Formula) (t : Tree CaseNode) → ExplainsBy q f t → ExplainsBy q (as_printed bytes f) t
explains-as_printed q bytes f t h = elim (fits (text_of f) bytes) as (λ b. ExplainsBy q (cond b f (opened f)) t) [ true ↦ h | false ↦ explains-opened q f t h ]

-- ---- from what is held to the box

HasTruth-printed : (bytes : List ℕ) (f : Formula) (b : Bool) → HasTruth (IsExactly f) b → HasTruth (IsPrintedAs bytes f) b
HasTruth-printed bytes f b h = record { at = λ g p. ap truth p.is ∙ truth-as_printed bytes f ∙ h.at f (record { is = refl }) }

IsCaseOf-printed : (q : Kind) (bytes : List ℕ) (f : Formula) (b : Bool) (t : Tree CaseNode) → IsCaseBy q (IsExactly f) b t → IsCaseBy q (IsPrintedAs bytes f) b t
IsCaseOf-printed q bytes f b t h = record {
  truth = HasTruth-printed bytes f b h.truth;
  explains = λ g p. rw p.is (explains-as_printed q bytes f t (h.explains f (record { is = refl })));
}

found-printed : (q : Kind) (bytes : List ℕ) (f : Formula) (w : Option Bool) (found : Option (Tree CaseNode)) → IsFoundBy q (IsExactly f) w found → IsFoundBy q (IsPrintedAs bytes f) w found
found-printed q bytes f (Some wanted) (Some t) h = IsCaseOf-printed q bytes f wanted t h
found-printed q bytes f (Some wanted) None h = HasTruth-printed bytes f (not wanted) h
found-printed q bytes f None (Some t) h = IsCaseOf-printed q bytes f t.root.result t h
found-printed q bytes f None None h = absurd (h f (record { is = refl }))

pub eval-printed : {E : Type 0} (bytes : List ℕ) (f : Formula) (r : Result Bool E) → IfOk r (HasTruth (IsExactly f)) → IfOk r (HasTruth (IsPrintedAs bytes f))
eval-printed bytes f (Ok b) h = HasTruth-printed bytes f b h
eval-printed bytes f (Err e) h = tt

pub find-printed : {E : Type 0} (bytes : List ℕ) (f : Formula) (expected : Bool) (r : Result (Option (Tree CaseNode)) E) → IfOk r (IsAnswer (IsExactly f) expected) → IfOk r (IsAnswer (IsPrintedAs bytes f) expected)
find-printed bytes f expected (Ok found) h = found-printed reasons bytes f (Some expected) found h
find-printed bytes f expected (Err e) h = tt

pub explain-printed : {E : Type 0} (bytes : List ℕ) (f : Formula) (w : Option Bool) (r : Result (Option (Tree CaseNode)) E) → IfOk r (IsFound (IsExactly f) w) → IfOk r (IsFound (IsPrintedAs bytes f) w)
explain-printed bytes f w (Ok found) h = found-printed reasons bytes f w found h
explain-printed bytes f w (Err e) h = tt

pub change-printed : {E : Type 0} (bytes : List ℕ) (f : Formula) (w : Option Bool) (r : Result (Option (Tree CaseNode)) E) → IfOk r (IsFoundChange (IsExactly f) w) → IfOk r (IsFoundChange (IsPrintedAs bytes f) w)
change-printed bytes f w (Ok found) h = found-printed changes bytes f w found h
change-printed bytes f w (Err e) h = tt

-- where the kept text fits, the box has the formulas of what is held
pub has-printed : (formula_of : List ℕ → Formula) (printed : List ℕ) → FitsRoots formula_of printed → HasFormulas formula_of (λ v. IsPrintedAs printed (formula_of (string_bytes v)))
has-printed formula_of printed roots = record { each = λ v. record { is = sym (as_printed-fits printed (formula_of (string_bytes v)) (roots.each v)) } }

pub ruleset boxes = (eval-printed, find-printed, explain-printed, change-printed, has-printed)
