-- How the children of a case show a first part and others, or one part.
use Rattle.std.proofs.Common.{◌≡◌, ℕ, suc, ◌+◌, ◌-◌, ◌<◌, Bool, true, false, List, [], ◌∷◌, ◌++◌, refl, ap, ◌∙◌, arith}
use Rattle.std.specs.Prelude.{nat_lt, nat_le}
use Rattle.std.proofs.lemmas.Bool.Decides.{nat_tests}
use Rattle.predicates_core.specs.Formula.{Formula, Formulas, one, more}
use Rattle.predicates_core.specs.Reason.{AreIncreasing}
use Rattle.predicates_core.specs.Kinds.{Kind, First}
use Rattle.predicates_core.specs.Tree.{Tree, Forest, empty, branch}
use Rattle.predicates_core.specs.Describe.{CaseNode, with_product}
use Rattle.predicates_core.specs.Shows.{left_share, right_share, with_index, ShowsPart, Shows, ShowsParts}
use Rattle.predicates_core.specs.Leaves.{IsShowing}
use Rattle.std.specs.Fmt.{decimal}
use Rattle.std.specs.Prelude.{codes, Some}
use Rattle.predicates_core.proofs.Numbers.{shifted}
use Rattle.predicates_core.proofs.BothKinds.{first_some}

below_is_left : (n k : ℕ) → k < n → nat_lt k n ≡ true
below_is_left n k h = grind (arith, nat_tests)

above_is_not_left : (n k : ℕ) → nat_lt (n + k) n ≡ false
above_is_not_left n k = grind (arith, nat_tests)

below_is_not_right : (n k : ℕ) → k < n → nat_le n k ≡ false
below_is_not_right n k h = grind (arith, nat_tests)

above_is_right : (n k : ℕ) → nat_le n (n + k) ≡ true
above_is_right n k = grind (arith, nat_tests)

pub left_share-shifted : (n : ℕ) (R : List ℕ) → left_share n (shifted n R) ≡ []
unfolding left_share
left_share-shifted n [] = refl
left_share-shifted n (k ∷ R) = rw (above_is_not_left n k) (left_share-shifted n R)

pub left_share-joined : (low n : ℕ) (L R : List ℕ) → AreIncreasing low n L → left_share n (L ++ shifted n R) ≡ L
unfolding left_share AreIncreasing
left_share-joined low n [] R h = left_share-shifted n R
left_share-joined low n (k ∷ L) R h = rw (below_is_left n k h.1) (ap (λ z. k ∷ z) (left_share-joined (suc k) n L R h.2))

pub right_share-shifted : (n : ℕ) (R : List ℕ) → right_share n (shifted n R) ≡ R
unfolding right_share
right_share-shifted n [] = refl
right_share-shifted n (k ∷ R) =
    let e : n + k - n ≡ k = omega arith in
    rw (above_is_right n k) (cc (e, right_share-shifted n R))

pub right_share-joined : (low n : ℕ) (L R : List ℕ) → AreIncreasing low n L → right_share n (L ++ shifted n R) ≡ R
unfolding right_share AreIncreasing
right_share-joined low n [] R h = right_share-shifted n R
right_share-joined low n (k ∷ L) R h = rw (below_is_not_right n k h.1) (right_share-joined (suc k) n L R h.2)

abbrev pub IsNonempty : List ℕ → Type 0
IsNonempty [] = ⊥
IsNonempty (k ∷ ks) = Unit {0}

nonempty : (ks : List ℕ) → (ks ≡ [] → ⊥) → IsNonempty ks
nonempty [] h = h refl
nonempty (k ∷ ks) h = tt

pub not_empty : (q : Kind) (f : Formula) (ks : List ℕ) → First q f ks → IsNonempty ks
not_empty q f ks h = nonempty ks (first_some q f ks h)

-- a case that shows the number as its last product
pub told : (k : ℕ) {c t : Tree CaseNode} → IsShowing (codes "index") (Some (decimal k)) c t → t ≡ with_index k c
told k {c} s = s.is ∙ ap (λ bytes. with_product c (codes "index", bytes)) s.fits

module _ (showing : Tree CaseNode → List ℕ → Type 0) (name : List ℕ) (rest : Forest CaseNode) where
  pub shows_part : (s : List ℕ) (c : Tree CaseNode) → IsNonempty s → showing c s → ShowsPart showing name s (branch name c.root c.children rest) rest
  shows_part [] c some h = absurd some
  shows_part (k ∷ ks) c some h = (c, refl, h)

-- a first part under a name, which has the first n leaves, and the others
module _ (first : Tree CaseNode → List ℕ → Type 0) (name : List ℕ) (others : Forest CaseNode → List ℕ → Type 0) (n : ℕ) (ks ms : List ℕ) (within : AreIncreasing 0 n ks) where
  abbrev ShowsAll : Forest CaseNode → List ℕ → List ℕ → Type 0
  ShowsAll children ls rs = (rest : Forest CaseNode) × ShowsPart first name ls children rest × others rest rs

  pub shows_all : (children rest : Forest CaseNode) → ShowsPart first name ks children rest → others rest ms → ShowsAll children (left_share n (ks ++ shifted n ms)) (right_share n (ks ++ shifted n ms))
  shows_all children rest h g = rw (left_share-joined 0 n ks ms within, right_share-joined 0 n ks ms within) (rest, h, g)

  pub all_shown : (children : Forest CaseNode) → ShowsAll children (left_share n (ks ++ shifted n ms)) (right_share n (ks ++ shifted n ms)) → ShowsAll children ks ms
  all_shown children h = rw (left_share-joined 0 n ks ms within, right_share-joined 0 n ks ms within) at h

-- none of the formulas is shown where none has a share
pub shows_none : (q : Kind) (tells : Bool) (k : ℕ) (fs : Formulas) → ShowsParts q tells k fs empty []
unfolding Shows left_share right_share
shows_none q tells k (one name f) = refl
shows_none q tells k (more name f fs) = (empty, refl, shows_none q tells (suc k) fs)

pub none_shown : (q : Kind) (tells : Bool) (k : ℕ) (fs : Formulas) (x : Forest CaseNode) → ShowsParts q tells k fs x [] → x ≡ empty
unfolding Shows left_share right_share
none_shown q tells k (one n f) x h = h
none_shown q tells k (more n f fs) x h = h.1 ∙ none_shown q tells (suc k) fs h.0 h.2
