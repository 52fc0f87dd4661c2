-- Which children the case of a threshold and that of a join have.
use Rattle.std.proofs.Common.{◌≡◌, ℕ, zero, suc, Bool, List, [], ◌∷◌, length, refl, sym, ap, ◌∙◌, subst, ⊎_elim, true, false, Some, arith}
use Rattle.predicates_core.specs.Describe.{CaseNode}
use Rattle.predicates_core.specs.Formula.{Formula, Formulas, one, more, AtLeast, size, truth, Join, number_of_parts}
use Rattle.predicates_core.specs.Kinds.{Kind, reasons}
use Rattle.predicates_core.specs.Reason.{AreIncreasing, IsFirstReason}
use Rattle.predicates_core.specs.Laws.{EnoughChildren, decided_by, first_with, OneChild}
use Rattle.predicates_core.specs.Shows.{ShowsPart, ShowsNumbered, Shows, ShowsParts, Explains}
use Rattle.predicates_core.specs.Tree.{Tree, Forest, named_trees, empty, branch}
use Rattle.predicates_core.proofs.BothKinds.{first_numbers, Carries, carried_truth, same_first, first_unique}
use Rattle.predicates_core.proofs.FirstOf.{first_of_each, first_of_threshold, selected_of_threshold, and_carries, or_carries}
use Rattle.predicates_core.proofs.Selection.{IsSelected, chosen_none}
use Rattle.predicates_core.proofs.Shown.{IsNonempty, not_empty, all_shown, none_shown}
use Rattle.predicates_core.proofs.Thresholds.{is_like, decisive}
use Rattle.predicates_core.specs.Label.{Label}
use Rattle.predicates_core.proofs.Values.{needed_is, number_some}

-- ---- the case of a threshold has as many children as parts decide it

-- a part with a share is one child
one_child_more : (showing : Tree CaseNode → List ℕ → Type 0) (name S : List ℕ) (x rest : Forest CaseNode) → IsNonempty S → ShowsPart showing name S x rest → length (named_trees x) ≡ suc (length (named_trees rest))
one_child_more showing name [] x rest some h = absurd some
one_child_more showing name (k ∷ ks) x rest some h = ap (λ z. length (named_trees z)) h.1

-- each part that is selected is one child
counted : (q : Kind) (such : Formula → Bool) (tells : Bool) (m k : ℕ) (fs : Formulas) (S : List ℕ) (x : Forest CaseNode) → IsSelected q such m fs S → ShowsParts q tells k fs x S → length (named_trees x) ≡ m
unfolding Shows
counted q such tells zero k fs S x s h = ap (λ z. length (named_trees z)) (none_shown q tells k fs x (subst (ShowsParts q tells k fs x) s h))
counted q such tells (suc m) k (one n f) S x s h = one_child_more (ShowsNumbered tells k (Shows q f)) n S x empty (not_empty q f S s.1) h ∙ ap suc (sym s.2)
counted q such tells (suc m) k (more n f fs) S x s h =
    let whole = subst (ShowsParts q tells k (more n f fs) x) s.2 h in
    let shown = λ (within : AreIncreasing 0 (size f) s.0). (all_shown (ShowsNumbered tells k (Shows q f)) n (ShowsParts q tells (suc k) fs) (size f) s.0 s.1 within x whole) in
    ⊎_elim
    (λ a. let c = shown (first_numbers q f s.0 a.1) in one_child_more (ShowsNumbered tells k (Shows q f)) n s.0 x c.0 (not_empty q f s.0 a.1) c.1 ∙ ap suc (counted q such tells m (suc k) fs s.1 c.0 a.2 c.2))
    (λ b.
    let c = shown (chosen_none (size f) s.0 b.1) in
    let same : x ≡ c.0 = subst (λ z. ShowsPart (ShowsNumbered tells k (Shows q f)) n z x c.0) b.1 c.1 in
    ap (λ z. length (named_trees z)) same ∙ counted q such tells (suc m) (suc k) fs s.1 c.0 b.2 c.2)
    s.3

pub enough_children : EnoughChildren
unfolding Shows
enough_children k label fs t h =
    let b = truth (AtLeast k label fs) in
    let s = selected_of_threshold b k label fs refl reasons (first_of_each reasons fs) in
    let same = first_unique h.first (first_of_threshold b k label fs refl reasons s.0 s.1) in
    counted reasons (is_like b) _ (decisive b k fs) 0 fs s.0 t.children s.1 (subst (ShowsParts reasons _ 0 fs t.children) same h.shown.1)

-- ---- where one part decides a join, its case has the first part that does, and no other

-- the threshold that the join is: of one part where one that holds decides, else of all
abbrev least : Bool → Formulas → ℕ
least true fs = 1
least false fs = number_of_parts fs

carried : (decides : Bool) (label : Label) (fs : Formulas) → Carries false (AtLeast (least decides fs) label fs) (Join (decided_by decides) label fs)
carried true label fs = or_carries label fs
carried false label fs = and_carries label fs

one_decides : (decides : Bool) (fs : Formulas) → decisive decides (least decides fs) fs ≡ 1
one_decides true fs = needed_is 1 fs (omega arith) (number_some fs)
one_decides false fs = let e = needed_is (number_of_parts fs) fs (number_some fs) (omega arith) in omega (arith, e)

abbrev IsAlone : Bool → Formulas → Forest CaseNode → Type 0
IsAlone b fs x = (name : List ℕ) × (f : Formula) × (c : Tree CaseNode) × (first_with b fs ≡ Some (name, f)) × (x ≡ branch name c.root c.children empty) × Explains f c

part_alone : (k : ℕ) (f : Formula) (name S : List ℕ) (x : Forest CaseNode) → IsFirstReason f S → ShowsPart (ShowsNumbered false k (Shows reasons f)) name S x empty → (c : Tree CaseNode) × (x ≡ branch name c.root c.children empty) × Explains f c
part_alone k f name [] x first h = absurd (not_empty reasons f [] first)
part_alone k f name (i ∷ S) x first h = (h.0, h.1, record { leaves = i ∷ S; first = first; shown = subst (λ z. Shows reasons f z (i ∷ S)) (sym h.2.1) h.2.2 })

alone : (b : Bool) (k : ℕ) (fs : Formulas) (S : List ℕ) (x : Forest CaseNode) → IsSelected reasons (is_like b) 1 fs S → ShowsParts reasons false k fs x S → IsAlone b fs x
unfolding Shows
alone b k (one n f) S x s h = let p = part_alone k f n S x s.1 h in (n, f, p.0, rw s.0 refl, p.1, p.2)
alone b k (more n f fs) S x s h =
    let whole = subst (ShowsParts reasons false k (more n f fs) x) s.2 h in
    let shown = λ (within : AreIncreasing 0 (size f) s.0). (all_shown (ShowsNumbered false k (Shows reasons f)) n (ShowsParts reasons false (suc k) fs) (size f) s.0 s.1 within x whole) in
    ⊎_elim
    (λ a.
    let c = shown (first_numbers reasons f s.0 a.1) in
    let none : c.0 ≡ empty = none_shown reasons false (suc k) fs c.0 (subst (ShowsParts reasons false (suc k) fs c.0) a.2 c.2) in
    let p = part_alone k f n s.0 x a.1 (subst (ShowsPart (ShowsNumbered false k (Shows reasons f)) n s.0 x) none c.1) in
    (n, f, p.0, rw a.0 refl, p.1, p.2))
    (λ o.
    let c = shown (chosen_none (size f) s.0 o.1) in
    let same : x ≡ c.0 = subst (λ z. ShowsPart (ShowsNumbered false k (Shows reasons f)) n z x c.0) o.1 c.1 in
    let p = alone b (suc k) fs s.1 c.0 o.2 c.2 in
    (p.0, p.1, p.2, rw o.0 p.3, same ∙ p.4, p.5))
    s.3

pub one_child : OneChild
unfolding Shows
one_child decides label fs t e h =
    let c = carried decides label fs in
    let is = sym (carried_truth c) ∙ e in
    let s = selected_of_threshold decides (least decides fs) label fs is reasons (first_of_each reasons fs) in
    let same = first_unique h.first (same_first reasons c s.0 (first_of_threshold decides (least decides fs) label fs is reasons s.0 s.1)) in
    let x = alone decides 0 fs s.0 t.children (subst (λ m. IsSelected reasons (is_like decides) m fs s.0) (one_decides decides fs) s.1) (subst (ShowsParts reasons false 0 fs t.children) same h.shown.1) in
    record { name = x.0; part = x.1; case = x.2; is_first = x.3; alone = x.4; explained = x.5 }
