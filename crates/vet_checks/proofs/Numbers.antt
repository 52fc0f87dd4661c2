-- A whole number against a float, by what the code asks of them.
use Rattle.std.proofs.Common.{◌≡◌, ℕ, zero, suc, ◌+◌, ◌*◌, ◌/◌, ◌%◌, ◌^◌, ◌<◌, ◌≤◌, ℤ, pos, negsuc, unsigned_abs, ◌≤ℤ◌, ◌<ℤ◌, true, false, refl, sym, ap, ◌∙◌, arith, Less, Equal, Some, nat_cmp, int_cmp, true≢false, mul-le-mul_right, div-add-mod', mod-lt, mul-pos, div-lt_iff_lt-mul, div-le_self, add_comm, cond, inl, inr, ltb}
use Rattle.std.specs.Ordering.{nan_last_cmp, ordering_reverse}
use Rattle.std.specs.Float.{Float, nan, inf, fin, binary64, two_to}
use Rattle.std.specs.Float.Ieee
use Rattle.std.proofs.lemmas.Float.{nan_last}
use Rattle.std.proofs.lemmas.Int.{ints}
use Rattle.std.proofs.lemmas.Bool.{cases_order}
use Rattle.std.proofs.lemmas.Bool.Decides.{nat_tests}
use Rattle.serde_json.specs.Data.{Num, unsigned, negative, float}
use Rattle.serde_json.specs.Find.{as_integer}
use Rattle.vet_checks.specs.Numbers.{whole, number_cmp}
use lib.Ieee.{up, down}
use lib.Ieee.Back.{round_whole}
use lib.Ieee.Exact.{HasValue}
use lib.Ieee.Fits.{down_pos}

-- ---- a natural number against a float

abbrev pub natural : ℕ → Float
natural n = fin false n (pos 0)

pub top_is : Ieee.of_bits binary64 0x43f0_0000_0000_0000 ≡ two_to 64
unfolding Ieee.of_bits
top_is = refl

of_value : (x : Float) (n : ℕ) → HasValue x false n 1 → nan_last_cmp x (natural n) ≡ Equal
unfolding Ieee.lt Ieee.is_nan
of_value nan n h = absurd h
of_value (inf s) n h = absurd h
of_value (fin true m e) n h = absurd (true≢false h.0)
of_value (fin false m e) n h = grind (arith, nat_tests, h.1)

-- a number that the format holds is rounded to itself
pub held : (n : ℕ) (x : Float) → n ≤ 2 ^ 53 → nan_last_cmp (Ieee.of_int binary64 (pos n)) x ≡ nan_last_cmp (natural n) x
unfolding Ieee.of_int
held n x h = nan_last.congr _ _ x (of_value _ n (round_whole binary64 false n h))

-- a float from 2 ^ 64 on is above each natural number of the code, and so is a NaN
pub above_all : (n : ℕ) (x : Float) → n < 2 ^ 64 → Ieee.lt x (two_to 64) ≡ false → Less ≡ nan_last_cmp (natural n) x
unfolding Ieee.lt Ieee.is_nan
above_all n nan f h = refl
above_all n (inf true) f h = absurd (true≢false h)
above_all n (inf false) f h = refl
above_all n (fin true m e) f h = grind (arith, nat_tests, down_pos e)
above_all n (fin false m e) f h =
    let past : suc n * down e ≤ 2 ^ 64 * down e = mul-le-mul_right (down e) f in
    grind (arith, nat_tests, past, down_pos e)

-- above 2 ^ 53 the format has no fractions
no_fraction : (m : ℕ) (e : ℤ) → Ieee.fits binary64 (fin false m e) ≡ true → 2 ^ 53 < m * up e / down e → m * up e % down e ≡ 0
unfolding Ieee.fits
no_fraction m (pos e) f big = omega arith
no_fraction zero (negsuc e) f big = absurd (omega (arith, div-le_self (0 * 1) (2 ^ suc e)))
no_fraction (suc m) (negsuc e) f big =
    let digits : suc m < 2 ^ 53 = grind (arith, nat_tests) in
    absurd (omega (arith, div-le_self (suc m * 1) (2 ^ suc e)))

-- n against a / d, where n is no whole part with a fraction beside it
by_whole : (n a d : ℕ) → 0 < d → (n ≡ a / d → a % d ≡ 0) → nat_cmp n (a / d) ≡ nat_cmp (n * d) a
by_whole n a d p none =
    let parts : a / d * d + a % d ≡ a = div-add-mod' a d in
    let rest : a % d < d = mod-lt a p in
    elim (cases_order n (a / d)) [
      | inl same ↦ let e : n * d ≡ a / d * d = ap (λ (k : ℕ). k * d) same in let z = none same in grind (arith, nat_tests)
      | inr (inl below) ↦ let e : suc n * d ≤ a / d * d = mul-le-mul_right d below in grind (arith, nat_tests)
      | inr (inr above) ↦ let e : suc (a / d) * d ≤ n * d = mul-le-mul_right d above in grind (arith, nat_tests)
    ]

pub by_whole_part : (n : ℕ) (x : Float) → 2 ^ 53 < n → Ieee.fits binary64 x ≡ true → Ieee.lt x (two_to 64) ≡ true
    → nat_cmp n (Ieee.to_unsigned 64 x) ≡ nan_last_cmp (natural n) x
unfolding Ieee.lt Ieee.is_nan Ieee.to_unsigned
by_whole_part n nan big f h = absurd (true≢false (sym h))
by_whole_part n (inf true) big f h = grind (arith, nat_tests)
by_whole_part n (inf false) big f h = absurd (true≢false (sym h))
by_whole_part n (fin true m e) big f h =
    let some : 0 < n * down e = mul-pos (omega arith) (down_pos e) in
    grind (arith, nat_tests)
by_whole_part n (fin false m e) big f h =
    let a = m * up e in
    let below : a < 2 ^ 64 * down e = grind (arith, nat_tests) in
    let part : a / down e < 2 ^ 64 = (div-lt_iff_lt-mul {x = a} {y = 2 ^ 64} (down_pos e)).1 below in
    let e : nat_cmp n (a / down e) ≡ nat_cmp (n * down e) a = by_whole n a (down e) (down_pos e) (λ same. no_fraction m e f (omega arith)) in
    grind (arith, nat_tests)

-- ---- below 0

pub turned : (m : ℕ) (x : Float) → Ieee.is_nan x ≡ false → ordering_reverse (nan_last_cmp (natural m) (Ieee.neg x)) ≡ nan_last_cmp (fin true m (pos 0)) x
unfolding Ieee.lt Ieee.is_nan Ieee.neg
turned m nan h = absurd (true≢false h)
turned m (inf true) h = refl
turned m (inf false) h = refl
turned m (fin true k e) h = sym (nan_last.antisymm (fin false k e) (natural m))
turned m (fin false k e) h =
    sym (nan_last.antisymm (fin true k e) (natural m))
    ∙ ap (λ (s : ℕ). cond (ltb 0 s) Less Equal) (add_comm (k * up e * 1) (m * 1 * down e))

pub upward : (z : ℤ) (m : ℕ) (x : Float) → m ≡ unsigned_abs z → pos 0 ≤ℤ z → nan_last_cmp (natural m) x ≡ nan_last_cmp (whole z) x
upward (pos n) m x e h = ap (λ (k : ℕ). nan_last_cmp (natural k) x) e
upward (negsuc n) m x e h = absurd (omega (arith, ints))

pub before_nan : (z : ℤ) (x : Float) → Ieee.is_nan x ≡ true → Less ≡ nan_last_cmp (whole z) x
unfolding Ieee.is_nan
before_nan (pos n) nan h = refl
before_nan (negsuc n) nan h = refl
before_nan z (inf s) h = absurd (true≢false (sym h))
before_nan z (fin s m e) h = absurd (true≢false (sym h))

pub downward : (z : ℤ) (m : ℕ) (x : Float) → m ≡ unsigned_abs z → z <ℤ pos 0 → Ieee.is_nan x ≡ false
    → ordering_reverse (nan_last_cmp (natural m) (Ieee.neg x)) ≡ nan_last_cmp (whole z) x
downward (pos n) m x e h p = absurd (omega (arith, ints))
downward (negsuc n) m x e h p = ap (λ (k : ℕ). ordering_reverse (nan_last_cmp (natural k) (Ieee.neg x))) e ∙ turned (suc n) x p

-- ---- two whole numbers

wholes : (y z : ℤ) → nan_last_cmp (whole y) (whole z) ≡ int_cmp y z
unfolding Ieee.lt Ieee.is_nan
wholes (pos m) (pos n) = grind (arith, nat_tests)
wholes (pos m) (negsuc n) = grind (arith, nat_tests)
wholes (negsuc m) (pos n) = grind (arith, nat_tests)
wholes (negsuc m) (negsuc n) = grind (arith, nat_tests)

-- the order of the whole numbers that they are
pub number_cmp_of_wholes : (a b : Num) (y z : ℤ) → as_integer a ≡ Some y → as_integer b ≡ Some z → number_cmp a b ≡ int_cmp y z
unfolding number_cmp
number_cmp_of_wholes (float x) b y z p q = cc
number_cmp_of_wholes (unsigned m) (float x) y z p q = cc
number_cmp_of_wholes (negative w) (float x) y z p q = cc
number_cmp_of_wholes (unsigned m) (unsigned n) y z p q = wholes (pos m) (pos n) ∙ cc
number_cmp_of_wholes (unsigned m) (negative v) y z p q = wholes (pos m) v ∙ cc
number_cmp_of_wholes (negative w) (unsigned n) y z p q = wholes w (pos n) ∙ cc
number_cmp_of_wholes (negative w) (negative v) y z p q = wholes w v ∙ cc

pub nat_cmp_is_int_cmp : (m n : ℕ) → nat_cmp m n ≡ int_cmp (pos m) (pos n)
nat_cmp_is_int_cmp m n = grind (arith, nat_tests)
