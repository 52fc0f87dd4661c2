-- One thing more holds, or has its report.
use Rattle.std.proofs.Common.{◌≡◌, ◌<◌, true, false, true≢false, not, Option, Some, List, [], ◌∷◌, ◌++◌, length, refl, sym, ap, ◌∙◌, map, subst, arith}
use Rattle.std.proofs.lemmas.List.{map-append, append-nil}
use Rattle.std.proofs.lemmas.List.Elements.{filter-append, All-nil, All-push, All-head, All-tail}
use Rattle.std.specs.Prelude.{filter, All}
use Rattle.std.specs.List.{AllByRecursion}
use Rattle.predicates_core.specs.Formula.{Formula, HasTruth, truth}
use Rattle.predicates_core.proofs.Several.{each_weaker}
use Rattle.predicates_core.specs.Describe.{CaseNode}
use Rattle.predicates_core.specs.Shows.{IsAnswer}
use Rattle.predicates_core.specs.Tree.{Tree}
use Rattle.predicates_require.specs.Told.{AreEach, AreTold, HasFailures, HoldsInfallibly, Mark, about}

-- a rule that holds infallibly has no case of not holding
pub no_case : {P Item : Type 0} (infallible : P → Item → Type 0) (formula : P → Item → Formula → Type 0) (item : Item) (rule : P) (found : Option (Tree CaseNode)) (case : Tree CaseNode)
    → HoldsInfallibly infallible formula item rule → IsAnswer (about formula item rule) false found → found ≡ Some case → ⊥
no_case infallible formula item rule found case holds answer is =
    let unmet = subst (IsAnswer (about formula item rule) false) is answer in
    absurd (true≢false (sym holds.1.2 ∙ unmet.truth.at holds.1.0 holds.1.1))

each_more : {A B : Type 0} (R : A → B → Type 0) (xs : List A) (ys : List B) (x : A) (y : B) → AreEach R xs ys → R x y → AreEach R (xs ++ x ∷ []) (ys ++ y ∷ [])
each_more R [] [] x y all more = (more, tt)
each_more R [] (b ∷ bs) x y all more = absurd all
each_more R (a ∷ as_) [] x y all more = absurd all
each_more R (a ∷ as_) (b ∷ bs) x y all more = (all.0, each_more R as_ bs x y all.1 more)

module _ {A B : Type 0} (F : A → Formula → Type 0) (R : A → B → Type 0) where
  pub told_none : AreTold F R [] [] []
  told_none = record {
    marks = [];
    of_things = refl;
    truths = All-nil (λ (m : Mark A). HasTruth (F m.0) m.1);
    stay = refl;
    each = tt;
  }

  pub told_held : {things hold : List A} {reports : List B} (x : A) → AreTold F R things hold reports → HasTruth (F x) true
      → AreTold F R (things ++ x ∷ []) (hold ++ x ∷ []) reports
  told_held {things} {hold} {reports} x h holds =
      let m : Mark A = (x, true) in
      let others : map (λ (m : Mark A). m.0) (filter (λ (m : Mark A). not m.1) (h.marks ++ m ∷ [])) ≡ map (λ (m : Mark A). m.0) (filter (λ (m : Mark A). not m.1) h.marks) =
      ap (map (λ (m : Mark A). m.0)) (filter-append (λ (m : Mark A). not m.1) h.marks (m ∷ []) ∙ append-nil _) in
      record {
        marks = h.marks ++ m ∷ [];
        of_things = map-append (λ (m : Mark A). m.0) h.marks (m ∷ []) ∙ ap (λ xs. xs ++ x ∷ []) h.of_things;
        truths = All-push (λ (m : Mark A). HasTruth (F m.0) m.1) h.marks m h.truths holds;
        stay = ap (λ xs. xs ++ x ∷ []) h.stay ∙ sym (ap (map (λ (m : Mark A). m.0)) (filter-append (λ (m : Mark A). m.1) h.marks (m ∷ [])) ∙ map-append (λ (m : Mark A). m.0) _ (m ∷ []));
        each = rw others h.each;
      }

  pub told_failed : {things hold : List A} {reports : List B} (x : A) (y : B) → AreTold F R things hold reports → HasTruth (F x) false → R x y
      → AreTold F R (things ++ x ∷ []) hold (reports ++ y ∷ [])
  told_failed {things} {hold} {reports} x y h fails report =
      let m : Mark A = (x, false) in
      let others : map (λ (m : Mark A). m.0) (filter (λ (m : Mark A). not m.1) (h.marks ++ m ∷ [])) ≡ map (λ (m : Mark A). m.0) (filter (λ (m : Mark A). not m.1) h.marks) ++ x ∷ [] =
      ap (map (λ (m : Mark A). m.0)) (filter-append (λ (m : Mark A). not m.1) h.marks (m ∷ [])) ∙ map-append (λ (m : Mark A). m.0) _ (m ∷ []) in
      record {
        marks = h.marks ++ m ∷ [];
        of_things = map-append (λ (m : Mark A). m.0) h.marks (m ∷ []) ∙ ap (λ xs. xs ++ x ∷ []) h.of_things;
        truths = All-push (λ (m : Mark A). HasTruth (F m.0) m.1) h.marks m h.truths fails;
        stay = h.stay ∙ sym (ap (map (λ (m : Mark A). m.0)) (filter-append (λ (m : Mark A). m.1) h.marks (m ∷ []) ∙ append-nil _));
        each = rw others (each_more R (map (λ (m : Mark A). m.0) (filter (λ (m : Mark A). not m.1) h.marks)) reports x y h.each report);
      }

  pub failures_none : HasFailures F R [] []
  failures_none = record { hold = []; told = told_none }

  pub failures_held : {things : List A} {reports : List B} (x : A) → HasFailures F R things reports → HasTruth (F x) true
      → HasFailures F R (things ++ x ∷ []) reports
  failures_held x h holds = record { hold = h.hold ++ x ∷ []; told = told_held x h.told holds }

  pub failures_more : {things : List A} {reports : List B} (x : A) (y : B) → HasFailures F R things reports → HasTruth (F x) false → R x y
      → HasFailures F R (things ++ x ∷ []) (reports ++ y ∷ [])
  failures_more x y h fails report = record { hold = h.hold; told = told_failed x y h.told fails report }

-- where each thing has this formula, those that hold are those of which it is true
module _ {A : Type 0} (F : A → Formula → Type 0) (formula_of : A → Formula) (has : (x : A) → F x (formula_of x)) where
  pub marked_true : (marks : List (Mark A)) → All (λ (m : Mark A). HasTruth (F m.0) m.1) marks
      → map (λ (m : Mark A). m.0) (filter (λ (m : Mark A). m.1) marks) ≡ filter (λ x. truth (formula_of x)) (map (λ (m : Mark A). m.0) marks)
  marked_true [] all = refl
  marked_true ((x, true) ∷ marks) all =
      rw ((All-head (λ (m : Mark A). HasTruth (F m.0) m.1) (x, true) marks all).at (formula_of x) (has x))
      (ap (λ xs. x ∷ xs) (marked_true marks (All-tail (λ (m : Mark A). HasTruth (F m.0) m.1) (x, true) marks all)))
  marked_true ((x, false) ∷ marks) all =
      rw ((All-head (λ (m : Mark A). HasTruth (F m.0) m.1) (x, false) marks all).at (formula_of x) (has x))
      (marked_true marks (All-tail (λ (m : Mark A). HasTruth (F m.0) m.1) (x, false) marks all))

  pub held_are_true : {B : Type 0} {R : A → B → Type 0} {things hold : List A} {reports : List B} → AreTold F R things hold reports
      → hold ≡ filter (λ x. truth (formula_of x)) things
  held_are_true h = h.stay ∙ marked_true h.marks h.truths ∙ ap (filter (λ x. truth (formula_of x))) h.of_things

-- nothing has a report exactly where all hold
module _ {A B : Type 0} (F : A → Formula → Type 0) (R : A → B → Type 0) where
  none_false : (marks : List (Mark A)) → AreEach R (map (λ (m : Mark A). m.0) (filter (λ (m : Mark A). not m.1) marks)) [] → All (λ (m : Mark A). HasTruth (F m.0) m.1) marks
      → AllByRecursion (λ x. HasTruth (F x) true) (map (λ (m : Mark A). m.0) marks)
  none_false [] none all = tt
  none_false ((x, true) ∷ marks) none all =
      (All-head (λ (m : Mark A). HasTruth (F m.0) m.1) (x, true) marks all, none_false marks none (All-tail (λ (m : Mark A). HasTruth (F m.0) m.1) (x, true) marks all))
  none_false ((x, false) ∷ marks) none all = absurd none

  pub all_hold : (things : List A) (reports : List B) → HasFailures F R things reports → reports ≡ [] → AllByRecursion (λ x. HasTruth (F x) true) things
  all_hold things reports h none =
      subst (AllByRecursion (λ x. HasTruth (F x) true)) h.told.of_things
      (none_false h.told.marks (subst (AreEach R (map (λ (m : Mark A). m.0) (filter (λ (m : Mark A). not m.1) h.told.marks))) none h.told.each) h.told.truths)

  abbrev pub HasTrue : A → Type 0
  HasTrue x = (f : Formula) × F x f × (truth f ≡ true)

  none_marked : (marks : List (Mark A)) → All (λ (m : Mark A). HasTruth (F m.0) m.1) marks → AllByRecursion HasTrue (map (λ (m : Mark A). m.0) marks)
      → map (λ (m : Mark A). m.0) (filter (λ (m : Mark A). not m.1) marks) ≡ []
  none_marked [] all true_of = refl
  none_marked ((x, true) ∷ marks) all true_of = none_marked marks (All-tail (λ (m : Mark A). HasTruth (F m.0) m.1) (x, true) marks all) true_of.1
  none_marked ((x, false) ∷ marks) all true_of =
      let is_false : truth true_of.0.0 ≡ false = (All-head (λ (m : Mark A). HasTruth (F m.0) m.1) (x, false) marks all).at true_of.0.0 true_of.0.1 in
      let is_true : truth true_of.0.0 ≡ true = true_of.0.2 in
      absurd (true≢false (sym is_true ∙ is_false))

  no_reports : (reports : List B) → AreEach R [] reports → reports ≡ []
  no_reports [] none = refl
  no_reports (y ∷ ys) none = absurd none

  pub none_failed : (things : List A) (reports : List B) → HasFailures F R things reports → AllByRecursion HasTrue things → reports ≡ []
  none_failed things reports h true_of =
      no_reports reports (subst (λ xs. AreEach R xs reports) (none_marked h.told.marks h.told.truths (subst (AllByRecursion HasTrue) (sym h.told.of_things) true_of)) h.told.each)

  pub not_all_hold : (Q : A → Type 0) → ((x : A) → Q x → HasTrue x) → (things : List A) (reports : List B) → HasFailures F R things reports → 0 < length reports → AllByRecursion Q things → ⊥
  not_all_hold Q true_of things reports h some all = omega (arith, some, ap length (none_failed things reports h (each_weaker Q HasTrue things true_of all)))
