-- Minimal lists of leaves and the first of them, and what those that decide a formula and those that
-- would turn it have in common.
use Rattle.std.proofs.Common.{◌≡◌, ◌⊎◌, ℕ, List, [], ◌∷◌, ◌++◌, length, refl, sym, ap, subst, arith, inl, inr, ⊎_elim, length-append, zero, suc, Bool, true, false, ◌∙◌}
use Rattle.std.specs.List.{Contains}
use Rattle.std.proofs.lemmas.List.Elements.{Contains-append_left, Contains-append_right, Contains-append_cases}
use Rattle.predicates_core.specs.First.{AreAmong, IsMinimal, IsFirst}
use Rattle.predicates_core.specs.Reason.{AreIncreasing, AreEqualAt}
use Rattle.predicates_core.proofs.Numbers.{increasing_without, never_both_before}
use Rattle.predicates_core.proofs.Turned.{same_numbers, contains_or_not, contains_later, contains_cases, contains_none, length-turned, equal_there, equal_by}
use mathlib.Core.List.{List-discrete}
use native.Mathlib.Decide.{ℕ_discrete}
use Rattle.std.specs.Prelude.{not}
use Rattle.predicates_core.specs.Formula.{Formula, Leaf, differ, size, IsValuation, value, actual, truth}
use Rattle.predicates_core.specs.Label.{Label}
use Rattle.predicates_core.specs.Laws.{MinimalReasons}
use Rattle.predicates_core.specs.Kinds.{turned, Kind, reasons, changes, Does, Minimal, First, NoneIsEmpty}
use Rattle.predicates_core.proofs.Joins.{length-actual}
use Rattle.predicates_core.proofs.Thresholds.{reaches}

-- whether two lists of leaves are the same
pub same_list : (S T : List ℕ) → Dec (S ≡ T)
same_list = List-discrete ℕ_discrete

-- of two first ones each would come before the other
pub first_unique : {P : List ℕ → Type 0} {S T : List ℕ} → IsFirst P S → IsFirst P T → S ≡ T
first_unique {S = S} {T = T} hs ht = elim (same_list S T) [
  | yes e ↦ e
  | no d ↦ absurd (never_both_before S T (hs.before_others T ht.is (λ e. d (sym e))) (ht.before_others S hs.is d))
]

-- where these are those
pub first_alike : {P Q : List ℕ → Type 0} → ((S : List ℕ) → P S → Q S) → ((S : List ℕ) → Q S → P S) → (S : List ℕ) → IsFirst P S → IsFirst Q S
first_alike there back S h = record { is = there S h.is; before_others = λ other q d. h.before_others other (back other q) d }

module _ (n : ℕ) (P Q : List ℕ → Type 0) (numbers : (S : List ℕ) → Q S → AreIncreasing 0 n S) where
  -- where each of these does, and has one of those among it, the first of those is the first of these
  module _ (does : (S : List ℕ) → P S → Q S) (has : (S : List ℕ) → Q S → (T : List ℕ) × P T × AreAmong T S) where
    still_minimal : (S : List ℕ) → IsMinimal P S → IsMinimal Q S
    still_minimal S m = record {
      is = does S m.is;
      has_no_less = λ other q among.
          let t = has other q in
          let same : t.0 ≡ S = m.has_no_less t.0 t.1 (λ k c. among k (t.2 k c)) in
          same_numbers 0 n other S (numbers other q) (numbers S (does S m.is)) among (subst (λ z. AreAmong z other) same t.2);
    }

    minimal_already : (S : List ℕ) → IsMinimal Q S → IsMinimal P S
    minimal_already S m =
        let t = has S m.is in
        record {
          is = subst P (m.has_no_less t.0 (does t.0 t.1) t.2) t.1;
          has_no_less = λ other p among. m.has_no_less other (does other p) among;
        }

    pub first_of_both : (S : List ℕ) → IsFirst (IsMinimal P) S → IsFirst (IsMinimal Q) S
    first_of_both = first_alike still_minimal minimal_already

-- where more leaves do as well, none is less where no leaf can be dropped

-- one of them is not among the others
abbrev pub LacksOne : List ℕ → List ℕ → Type 0
LacksOne S T = (front : List ℕ) × (leaf : ℕ) × (back : List ℕ) × (S ≡ front ++ leaf ∷ back) × (Contains T leaf → ⊥)

all_or_lacking : (S T : List ℕ) → AreAmong S T ⊎ LacksOne S T
all_or_lacking [] T = inl (λ k c. absurd (contains_none k c))
all_or_lacking (x ∷ S) T = ⊎_elim
    (λ here. ⊎_elim
    (λ all. inl (λ k c. ⊎_elim (λ e. subst (Contains T) (sym e) here) (all k) (contains_cases x k S c)))
    (λ l. inr (x ∷ l.0, l.1, l.2, ap (λ z. x ∷ z) l.3, l.4))
    (all_or_lacking S T))
    (λ lacks. inr ([], x, S, refl, lacks))
    (contains_or_not T x)

among_without : (front : List ℕ) (leaf : ℕ) (back T : List ℕ) → AreAmong T (front ++ leaf ∷ back) → (Contains T leaf → ⊥) → AreAmong T (front ++ back)
among_without front leaf back T among lacks k c = ⊎_elim
    (λ a. Contains-append_left front back k a)
    (λ b. ⊎_elim (λ e. absurd (lacks (subst (Contains T) e c))) (λ d. Contains-append_right front back k d) (contains_cases leaf k back b))
    (Contains-append_cases front (leaf ∷ back) k (among k c))

module _ {P : List ℕ → Type 0} where
  pub less_by_dropping : {S : List ℕ} → IsMinimal P S → (front : List ℕ) (leaf : ℕ) (back : List ℕ) → S ≡ front ++ leaf ∷ back → P (front ++ back) → ⊥
  less_by_dropping {S} m front leaf back e p =
      let same : front ++ back ≡ S = m.has_no_less (front ++ back) p (λ k c. rw e (⊎_elim (λ a. Contains-append_left front (leaf ∷ back) k a) (λ b. Contains-append_right front (leaf ∷ back) k (contains_later leaf k back b)) (Contains-append_cases front back k c))) in
      omega (arith, length-append front back, length-append front (leaf ∷ back), ap length e, ap length same)

  pub minimal_by_dropping : (n : ℕ) {S : List ℕ} → ((T : List ℕ) → P T → AreIncreasing 0 n T) → ((L T : List ℕ) → P L → AreIncreasing 0 n T → AreAmong L T → P T)
      → P S → ((front : List ℕ) (leaf : ℕ) (back : List ℕ) → S ≡ front ++ leaf ∷ back → P (front ++ back) → ⊥) → IsMinimal P S
  minimal_by_dropping n {S} numbers grows is needs = record {
    is = is;
    has_no_less = λ other p among. ⊎_elim
        (λ all. same_numbers 0 n other S (numbers other p) (numbers S is) among all)
        (λ l.
        let fewer = increasing_without 0 n l.0 l.1 l.2 (subst (AreIncreasing 0 n) l.3 (numbers S is)) in
        absurd (needs l.0 l.1 l.2 l.3 (grows other (l.0 ++ l.2) p fewer (among_without l.0 l.1 l.2 other (subst (AreAmong other) l.3 among) l.4))))
        (all_or_lacking S other);
  }

pub never_turned : (b : Bool) → b ≡ not b → ⊥
never_turned b e = grind arith

pub numbers : (q : Kind) (f : Formula) (S : List ℕ) → Does q f S → AreIncreasing 0 (size f) S
numbers reasons f S h = h.numbers
numbers changes f S h = h.numbers

-- a formula takes both values, so some leaf decides; and where nothing turns, the truth stays
pub some : (q : Kind) → NoneIsEmpty q
unfolding AreEqualAt turned truth
some reasons f S h e =
    let always = λ (b : Bool). let r = reaches f b in (sym r.2 ∙ h.decides r.0 r.1 (rw e tt)) in
    let yes' : true ≡ truth f = always true in
    let no' : false ≡ truth f = always false in
    cc
some changes f [] h e = never_turned (truth f) h.turns
some changes f (k ∷ S) h e = absurd (cc)

-- ---- a minimal reason has no less

pub minimal_reasons : MinimalReasons
minimal_reasons f S = (
  λ m. minimal_by_dropping (size f) (λ T h. h.numbers) (λ L T h i among. record { numbers = i; decides = λ w e same. h.decides w e (equal_by L w (actual f) (λ k c. equal_there T w (actual f) k (among k c) same)) }) m.reason m.needs_each,
  λ m. record { reason = m.is; needs_each = less_by_dropping m },
)

has_no_less : (q : Kind) (f : Formula) (S : List ℕ) → Minimal q f S → IsMinimal (Does q f) S
has_no_less reasons f S m = (minimal_reasons f S).0 m
has_no_less changes f S m = m

is_minimal : (q : Kind) (f : Formula) (S : List ℕ) → IsMinimal (Does q f) S → Minimal q f S
is_minimal reasons f S m = (minimal_reasons f S).1 m
is_minimal changes f S m = m

pub strong : (q : Kind) (f : Formula) (S : List ℕ) → First q f S → IsFirst (IsMinimal (Does q f)) S
strong q f = first_alike (has_no_less q f) (is_minimal q f)

pub weak : (q : Kind) (f : Formula) (S : List ℕ) → IsFirst (IsMinimal (Does q f)) S → First q f S
weak q f = first_alike (is_minimal q f) (has_no_less q f)

-- of a first one
pub first_numbers : (q : Kind) (f : Formula) (S : List ℕ) → First q f S → AreIncreasing 0 (size f) S
first_numbers q f S h = numbers q f S (strong q f S h).is.is

pub first_some : (q : Kind) (f : Formula) (S : List ℕ) → First q f S → S ≡ [] → ⊥
first_some q f S h = some q f S (strong q f S h).is.is

-- ---- the same function of the same leaves, or its opposite

pub record Carries (opposite : Bool) (f g : Formula) : Type 0 where
  pub leaves : actual f ≡ actual g
  pub values : (w : List Bool) → IsValuation f w → value g w ≡ differ opposite (value f w)

differ_twice : (b x : Bool) → differ b (differ b x) ≡ x
differ_twice b x = grind arith

differ_not : (b x : Bool) → differ b (not x) ≡ not (differ b x)
differ_not b x = grind arith

module _ {b : Bool} {f g : Formula} (c : Carries b f g) where
  same_size : size f ≡ size g
  same_size = sym (length-actual f) ∙ ap length c.leaves ∙ length-actual g

  pub carried_truth : truth g ≡ differ b (truth f)
  unfolding truth
  carried_truth = ap (value g) (sym c.leaves) ∙ c.values (actual f) (length-actual f)

  pub carries_back : Carries b g f
  carries_back = record { leaves = sym c.leaves; values = λ w e. sym (ap (differ b) (c.values w (e ∙ sym same_size)) ∙ differ_twice b (value f w)) }

  carried : (q : Kind) (S : List ℕ) → Does q f S → Does q g S
  carried reasons S h = record {
    numbers = rw (← same_size) h.numbers;
    decides = λ w e at. let ew : IsValuation f w = e ∙ sym same_size in c.values w ew ∙ ap (differ b) (h.decides w ew (rw c.leaves at)) ∙ sym carried_truth;
  }
  carried changes S h = record {
    numbers = rw (← same_size) h.numbers;
    turns = ap (λ w. value g (turned S w)) (sym c.leaves) ∙ c.values (turned S (actual f)) (length-turned S (actual f) ∙ length-actual f) ∙ ap (differ b) h.turns ∙ differ_not b (truth f) ∙ ap not (sym carried_truth);
  }

-- it has the same first ones
pub same_first : (q : Kind) {b : Bool} {f g : Formula} → Carries b f g → (S : List ℕ) → First q f S → First q g S
same_first q {f = f} {g = g} c S h = weak q g S (first_of_both (size g) (Does q f) (Does q g) (numbers q g) (carried c q) (λ T d. (T, carried (carries_back c) q T d, λ k i. i)) S (strong q f S h))

-- ---- a leaf

module _ (label : Label) (t : Bool) where
  leaf_does : (q : Kind) → Does q (Leaf label t) (0 ∷ [])
  unfolding size value actual truth AreIncreasing AreEqualAt turned
  leaf_does reasons = record { numbers = (omega arith, omega arith, tt); decides = λ w e at. at.0 }
  leaf_does changes = record { numbers = (omega arith, omega arith, tt); turns = refl }

  leaf_alone : (q : Kind) (S : List ℕ) → Does q (Leaf label t) S → S ≡ 0 ∷ []
  unfolding size AreIncreasing
  leaf_alone q [] h = absurd (some q (Leaf label t) [] h refl)
  leaf_alone q (zero ∷ []) h = refl
  leaf_alone q (suc k ∷ S) h = absurd (let i = numbers q (Leaf label t) (suc k ∷ S) h in omega (arith, i.1))
  leaf_alone q (zero ∷ k ∷ S) h = absurd (let i = numbers q (Leaf label t) (zero ∷ k ∷ S) h in omega (arith, i.2.0, i.2.1))

  pub first-Leaf : (q : Kind) → First q (Leaf label t) (0 ∷ [])
  first-Leaf q = weak q (Leaf label t) (0 ∷ []) (record {
    is = record { is = leaf_does q; has_no_less = λ other h among. leaf_alone q other h };
    before_others = λ other m apart. absurd (apart (leaf_alone q other m.is));
  })
