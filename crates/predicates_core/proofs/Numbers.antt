-- Increasing lists of numbers, and which of two comes before the other.
use Rattle.std.proofs.Common.{◌≡◌, ℕ, suc, ◌+◌, ◌-◌, ◌≤◌, List, [], ◌∷◌, ◌++◌, refl, ap, arith, inl, inr, ⊎_elim}
use Rattle.std.proofs.lemmas.Bool.{cases_lt}
use Rattle.predicates_core.specs.First.{ComesBefore}
use Rattle.predicates_core.specs.Reason.{AreIncreasing}

-- the numbers, each larger by n
abbrev pub shifted : ℕ → List ℕ → List ℕ
shifted n [] = []
shifted n (k ∷ rest) = (n + k) ∷ shifted n rest

pub lower : (low low' high : ℕ) (S : List ℕ) → low' ≤ low → AreIncreasing low high S → AreIncreasing low' high S
unfolding AreIncreasing
lower low low' high [] l h = tt
lower low low' high (k ∷ rest) l h = (omega arith, h.1, h.2)

pub increasing_without : (low high : ℕ) (front : List ℕ) (k : ℕ) (back : List ℕ) → AreIncreasing low high (front ++ k ∷ back) → AreIncreasing low high (front ++ back)
unfolding AreIncreasing
increasing_without low high [] k back h = lower (suc k) low high back (omega arith) h.2
increasing_without low high (x ∷ front) k back h = (h.0, h.1, increasing_without (suc x) high front k back h.2)

pub increasing_shifted : (low m n : ℕ) (R : List ℕ) → AreIncreasing low m R → AreIncreasing (n + low) (n + m) (shifted n R)
unfolding AreIncreasing
increasing_shifted low m n [] h = tt
increasing_shifted low m n (k ∷ rest) h = (omega arith, omega arith, lower (n + suc k) (suc (n + k)) (n + m) (shifted n rest) (omega arith) (increasing_shifted (suc k) m n rest h.2))

pub increasing_joined : (low n m : ℕ) (L R : List ℕ) → low ≤ n → AreIncreasing low n L → AreIncreasing 0 m R → AreIncreasing low (n + m) (L ++ shifted n R)
unfolding AreIncreasing
increasing_joined low n m [] R l hl hr = lower (n + 0) low (n + m) (shifted n R) (omega arith) (increasing_shifted 0 m n R hr)
increasing_joined low n m (k ∷ L) R l hl hr = (hl.0, omega arith, increasing_joined (suc k) n m L R hl.1 hl.2 hr)

pub unshifted : (low n m : ℕ) (T : List ℕ) → AreIncreasing (n + low) (n + m) T → (R : List ℕ) × (T ≡ shifted n R) × AreIncreasing low m R
unfolding AreIncreasing
unshifted low n m [] h = ([], refl, tt)
unshifted low n m (k ∷ rest) h =
    let ih = unshifted (suc (k - n)) n m rest (lower (suc k) (n + suc (k - n)) (n + m) rest (omega arith) h.2) in
    let e : k ≡ n + (k - n) = omega arith in
    ((k - n) ∷ ih.0, cc, (omega arith, omega arith, ih.2))

pub no_numbers : (n : ℕ) → AreIncreasing 0 n []
unfolding AreIncreasing
no_numbers n = tt

-- every increasing list is one of the left part's numbers and one of the right part's
pub split : (low n m : ℕ) (T : List ℕ) → low ≤ n → AreIncreasing low (n + m) T → (L : List ℕ) × (R : List ℕ) × (T ≡ L ++ shifted n R) × AreIncreasing low n L × AreIncreasing 0 m R
unfolding AreIncreasing
split low n m [] l h = ([], [], refl, tt, tt)
split low n m (k ∷ rest) l h = ⊎_elim
    (λ below. let ih = split (suc k) n m rest below h.2 in (k ∷ ih.0, ih.1, ap (λ z. k ∷ z) ih.2, (h.0, below, ih.3), ih.4))
    (λ above. let r = unshifted 0 n m (k ∷ rest) (omega arith, h.1, h.2) in ([], r.0, r.1, tt, r.2))
    (cases_lt k n)

pub before_joined : (S T X Y : List ℕ) → ComesBefore S T → ((k : ℕ) (rest : List ℕ) → T ≡ S ++ k ∷ rest → ⊥) → ComesBefore (S ++ X) (T ++ Y)
unfolding ComesBefore
before_joined [] [] X Y h no_front = absurd h
before_joined [] (y ∷ T) X Y h no_front = absurd (no_front y T refl)
before_joined (x ∷ S) [] X Y h no_front = absurd h
before_joined (x ∷ S) (y ∷ T) X Y h no_front = ⊎_elim
    (λ less. inl less)
    (λ same. inr (same.0, before_joined S T X Y same.1 (λ k rest e. no_front k rest (cc))))
    h

pub before_behind : (S X Y : List ℕ) → ComesBefore X Y → ComesBefore (S ++ X) (S ++ Y)
unfolding ComesBefore
before_behind [] X Y h = h
before_behind (x ∷ S) X Y h = inr (refl, before_behind S X Y h)

pub before_shifted : (n : ℕ) (S T : List ℕ) → ComesBefore S T → ComesBefore (shifted n S) (shifted n T)
unfolding ComesBefore
before_shifted n [] [] h = h
before_shifted n [] (y ∷ T) h = tt
before_shifted n (x ∷ S) [] h = h
before_shifted n (x ∷ S) (y ∷ T) h = ⊎_elim (λ less. inl (omega arith)) (λ same. inr (ap (λ z. n + z) same.0, before_shifted n S T same.1)) h

pub never_both_before : (S T : List ℕ) → ComesBefore S T → ComesBefore T S → ⊥
unfolding ComesBefore
never_both_before [] [] h g = h
never_both_before [] (y ∷ T) h g = g
never_both_before (x ∷ S) [] h g = h
never_both_before (x ∷ S) (y ∷ T) h g = ⊎_elim
    (λ a. ⊎_elim (λ b. omega arith) (λ b. omega arith) g)
    (λ a. ⊎_elim (λ b. omega arith) (λ b. never_both_before S T a.1 b.1) g)
    h
