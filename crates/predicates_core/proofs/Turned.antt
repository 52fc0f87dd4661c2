-- Valuations with some places turned round, and the numbers that lists have in common.
use Rattle.std.proofs.Common.{◌≡◌, ◌⊎◌, ℕ, zero, suc, ◌+◌, ◌-◌, ◌<◌, ◌≤◌, List, [], ◌∷◌, ◌++◌, Bool, false, not, length, get_or, set, refl, sym, ap, ◌∙◌, subst, arith, inl, inr, ⊎_elim}
use Rattle.std.specs.List.{Contains}
use Rattle.std.proofs.lemmas.List.{length-set, set-append_left, set-append_right, get_or_append_left, get_or-append-add, get_or-set_other}
use Rattle.std.proofs.lemmas.List.Elements.{Contains-append_left, Contains-append_right, Contains-append_cases}
use Rattle.predicates_core.specs.Reason.{AreIncreasing, AreEqualAt}
use Rattle.predicates_core.specs.First.{AreAmong}
use Rattle.predicates_core.specs.Kinds.{turned}
use Rattle.predicates_core.proofs.Numbers.{shifted}
use native.Mathlib.Decide.{ℕ_discrete}

pub length-turned : (S : List ℕ) (w : List Bool) → length (turned S w) ≡ length w
unfolding turned
length-turned [] w = refl
length-turned (k ∷ S) w = length-turned S _ ∙ length-set w k _

pub turned-append : (S T : List ℕ) (w : List Bool) → turned (S ++ T) w ≡ turned T (turned S w)
unfolding turned
turned-append [] T w = refl
turned-append (k ∷ S) T w = turned-append S T _

-- the left part's places turn only what is left
pub turned-left : (low : ℕ) (S : List ℕ) (v w : List Bool) → AreIncreasing low (length v) S → turned S (v ++ w) ≡ turned S v ++ w
unfolding turned AreIncreasing
turned-left low [] v w i = refl
turned-left low (k ∷ S) v w i =
    let here : set (v ++ w) k (not (get_or (v ++ w) k false)) ≡ set v k (not (get_or v k false)) ++ w =
    ap (λ b. set (v ++ w) k (not b)) (get_or_append_left v w false k i.1) ∙ set-append_left v w k _ i.1 in
    ap (turned S) here ∙ turned-left (suc k) S (set v k (not (get_or v k false))) w (subst (λ n. AreIncreasing (suc k) n S) (sym (length-set v k _)) i.2)

pub turned-right : (n : ℕ) (S : List ℕ) (v w : List Bool) → length v ≡ n → turned (shifted n S) (v ++ w) ≡ v ++ turned S w
unfolding turned
turned-right n [] v w e = refl
turned-right n (k ∷ S) v w e =
    let at : get_or (v ++ w) (n + k) false ≡ get_or w k false = rw (← e) (get_or-append-add v w k false) in
    let less : n + k - n ≡ k = omega arith in
    let here : set (v ++ w) (n + k) (not (get_or (v ++ w) (n + k) false)) ≡ v ++ set w k (not (get_or w k false)) =
    ap (λ b. set (v ++ w) (n + k) (not b)) at ∙ set-append_right v w n (n + k) _ e (omega arith) ∙ ap (λ m. v ++ set w m (not (get_or w k false))) less in
    ap (turned (shifted n S)) here ∙ turned-right n S v (set w k (not (get_or w k false))) e

-- ---- numbers of lists

pub contains_first : (x : ℕ) (S : List ℕ) → Contains (x ∷ S) x
contains_first x S = (zero, omega arith, refl)

pub contains_later : (x y : ℕ) (S : List ℕ) → Contains S y → Contains (x ∷ S) y
contains_later x y S c = (suc c.0, omega (arith, c.1), c.2)

pub contains_cases : (x y : ℕ) (S : List ℕ) → Contains (x ∷ S) y → (y ≡ x) ⊎ Contains S y
contains_cases x y S (zero, within, at) = inl (sym at)
contains_cases x y S (suc i, within, at) = inr (i, omega (arith, within), at)

pub contains_none : (y : ℕ) → Contains [] y → ⊥
contains_none y c = omega (arith, c.1)

pub none_among : (S : List ℕ) → AreAmong S [] → S ≡ []
none_among [] h = refl
none_among (x ∷ S) h = absurd (contains_none x (h x (contains_first x S)))

pub contained_below : (low high k : ℕ) (S : List ℕ) → AreIncreasing low high S → Contains S k → k < high
unfolding AreIncreasing
contained_below low high k [] i c = absurd (contains_none k c)
contained_below low high k (x ∷ S) i c = ⊎_elim (λ e. rw e i.1) (λ d. contained_below (suc x) high k S i.2 d) (contains_cases x k S c)

pub contained_above : (n k : ℕ) (S : List ℕ) → Contains (shifted n S) k → n ≤ k
contained_above n k [] c = absurd (contains_none k c)
contained_above n k (x ∷ S) c = ⊎_elim (λ e. omega (arith, e)) (λ d. contained_above n k S d) (contains_cases (n + x) k (shifted n S) c)

pub contains_shifted : (n k : ℕ) (S : List ℕ) → Contains S k → Contains (shifted n S) (n + k)
contains_shifted n k [] c = absurd (contains_none k c)
contains_shifted n k (x ∷ S) c = ⊎_elim
    (λ e. rw e (contains_first (n + x) (shifted n S)))
    (λ d. contains_later (n + x) (n + k) (shifted n S) (contains_shifted n k S d))
    (contains_cases x k S c)

pub shifted_contains : (n k : ℕ) (S : List ℕ) → Contains (shifted n S) (n + k) → Contains S k
shifted_contains n k [] c = absurd (contains_none (n + k) c)
shifted_contains n k (x ∷ S) c = ⊎_elim
    (λ e. let same : k ≡ x = omega (arith, e) in rw same (contains_first x S))
    (λ d. contains_later x k S (shifted_contains n k S d))
    (contains_cases (n + x) (n + k) (shifted n S) c)

pub unshifted_contains : (n k : ℕ) (S : List ℕ) → Contains (shifted n S) k → (j : ℕ) × (k ≡ n + j) × Contains S j
unshifted_contains n k S c =
    let e : k ≡ n + (k - n) = omega (arith, contained_above n k S c) in
    (k - n, e, shifted_contains n (k - n) S (subst (Contains (shifted n S)) e c))

pub among_shifted : (n : ℕ) (S T : List ℕ) → AreAmong S T → AreAmong (shifted n S) (shifted n T)
among_shifted n S T h k c = let u = unshifted_contains n k S c in rw u.1 (contains_shifted n u.0 T (h u.0 u.2))

pub among_front : (S T X : List ℕ) → AreAmong S T → AreAmong (S ++ X) (T ++ X)
among_front S T X h k c = ⊎_elim (λ a. Contains-append_left T X k (h k a)) (λ b. Contains-append_right T X k b) (Contains-append_cases S X k c)

pub among_back : (X S T : List ℕ) → AreAmong S T → AreAmong (X ++ S) (X ++ T)
among_back X S T h k c = ⊎_elim (λ a. Contains-append_left X T k a) (λ b. Contains-append_right X T k (h k b)) (Contains-append_cases X S k c)

pub none_of : (L : List ℕ) → AreAmong [] L
none_of L k c = absurd (contains_none k c)

-- of both parts, and of the others alone
pub among_both : (n : ℕ) (L M R T : List ℕ) → AreAmong L M → AreAmong R T → AreAmong (L ++ shifted n R) (M ++ shifted n T)
among_both n L M R T left right k c = among_back M (shifted n R) (shifted n T) (among_shifted n R T right) k (among_front L M (shifted n R) left k c)

module _ (n m : ℕ) (L R L' R' : List ℕ) (l : AreIncreasing 0 n L) (l' : AreIncreasing 0 n L') (h : AreAmong (L' ++ shifted n R') (L ++ shifted n R)) where
  pub left_among : AreAmong L' L
  left_among k c = ⊎_elim
      (λ a. a)
      (λ b. absurd (omega (arith, contained_above n k R b, contained_below 0 n k L' l' c)))
      (Contains-append_cases L (shifted n R) k (h k (Contains-append_left L' (shifted n R') k c)))

  pub right_among : AreAmong R' R
  right_among k c = ⊎_elim
      (λ a. absurd (omega (arith, contained_below 0 n (n + k) L l a)))
      (λ b. shifted_contains n k R b)
      (Contains-append_cases L (shifted n R) (n + k) (h (n + k) (Contains-append_right L' (shifted n R') (n + k) (contains_shifted n k R' c))))

above : (low high k : ℕ) (S : List ℕ) → AreIncreasing low high S → Contains S k → low ≤ k
unfolding AreIncreasing
above low high k [] i c = absurd (contains_none k c)
above low high k (x ∷ S) i c = ⊎_elim (λ e. rw e i.0) (λ d. let h = above (suc x) high k S i.2 d in omega (arith, h, i.0)) (contains_cases x k S c)

head_is : (low high x y : ℕ) (S T : List ℕ) → AreIncreasing low high (x ∷ S) → AreIncreasing low high (y ∷ T) → AreAmong (x ∷ S) (y ∷ T) → AreAmong (y ∷ T) (x ∷ S) → x ≡ y
unfolding AreIncreasing
head_is low high x y S T i j there back = ⊎_elim
    (λ e. e)
    (λ later. ⊎_elim
    (λ e. sym e)
    (λ sooner. absurd (let p = above (suc y) high x T j.2 later in let q = above (suc x) high y S i.2 sooner in omega (arith, p, q)))
    (contains_cases x y S (back y (contains_first y T))))
    (contains_cases y x T (there x (contains_first x S)))

-- two lists of increasing numbers that are among one another are the same
pub same_numbers : (low high : ℕ) (S T : List ℕ) → AreIncreasing low high S → AreIncreasing low high T → AreAmong S T → AreAmong T S → S ≡ T
unfolding AreIncreasing
same_numbers low high [] T i j there back = sym (none_among T back)
same_numbers low high (x ∷ S) [] i j there back = none_among (x ∷ S) there
same_numbers low high (x ∷ S) (y ∷ T) i j there back =
    let e : x ≡ y = head_is low high x y S T i j there back in
    let rest : S ≡ T = same_numbers (suc x) high S T i.2 (rw e j.2)
    (λ k c. ⊎_elim (λ same. absurd (let p = above (suc x) high k S i.2 c in omega (arith, same, e, p))) (λ d. d) (contains_cases y k T (there k (contains_later x k S c))))
    (λ k c. ⊎_elim (λ same. absurd (let p = above (suc y) high k T j.2 c in omega (arith, same, e, p))) (λ d. d) (contains_cases x k S (back k (contains_later y k T c)))) in
    cc (e, rest)

-- ---- places that turned

-- a place that is none of the turned ones stays
stays : (S : List ℕ) (w : List Bool) (k : ℕ) → (Contains S k → ⊥) → get_or (turned S w) k false ≡ get_or w k false
unfolding turned
stays [] w k none = refl
stays (x ∷ S) w k none =
    stays S (set w x (not (get_or w x false))) k (λ c. none (contains_later x k S c))
    ∙ get_or-set_other w x k _ false (λ e. none (subst (Contains (x ∷ S)) (sym e) (contains_first x S)))

pub contains_or_not : (S : List ℕ) (k : ℕ) → Contains S k ⊎ (Contains S k → ⊥)
contains_or_not [] k = inr (contains_none k)
contains_or_not (x ∷ S) k = elim (ℕ_discrete k x) [
  | yes e ↦ inl (subst (Contains (x ∷ S)) (sym e) (contains_first x S))
  | no d ↦ ⊎_elim (λ a. inl (contains_later x k S a)) (λ n. inr (λ c. ⊎_elim d n (contains_cases x k S c))) (contains_or_not S k)
]

-- one of the places turned, or all are as they were
pub some_turned : (R S : List ℕ) (w : List Bool) → ((k : ℕ) × Contains R k × Contains S k) ⊎ AreEqualAt R (turned S w) w
unfolding AreEqualAt
some_turned [] S w = inr tt
some_turned (k ∷ R) S w = ⊎_elim
    (λ a. inl (k, contains_first k R, a))
    (λ n. ⊎_elim
    (λ b. inl (b.0, contains_later k b.0 R b.1, b.2))
    (λ e. inr (stays S w k n, e))
    (some_turned R S w))
    (contains_or_not S k)

-- ---- places at which two valuations are equal

pub equal_there : (S : List ℕ) (v w : List Bool) (k : ℕ) → Contains S k → AreEqualAt S v w → get_or v k false ≡ get_or w k false
unfolding AreEqualAt
equal_there [] v w k c h = absurd (contains_none k c)
equal_there (x ∷ S) v w k c h = ⊎_elim (λ e. rw e h.0) (λ d. equal_there S v w k d h.1) (contains_cases x k S c)

pub equal_by : (S : List ℕ) (v w : List Bool) → ((k : ℕ) → Contains S k → get_or v k false ≡ get_or w k false) → AreEqualAt S v w
unfolding AreEqualAt
equal_by [] v w h = tt
equal_by (k ∷ S) v w h = (h k (contains_first k S), equal_by S v w (λ i c. h i (contains_later k i S c)))

pub equal_at_itself : (S : List ℕ) (w : List Bool) → AreEqualAt S w w
equal_at_itself S w = equal_by S w w (λ k c. refl)
