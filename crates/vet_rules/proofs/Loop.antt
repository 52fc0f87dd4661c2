-- Reading one token.
use Rattle.std.proofs.Common.{◌≡◌, ℕ, ◌<◌, List, [], ◌∷◌, Option, Some, None, Result, Ok, refl, ap, length, arith}
use Rattle.vet_rules.specs.declared.error.Expected.{Expected}
use Rattle.vet_rules.specs.declared.stop.Stop.{Stop}
use Rattle.vet_rules.specs.Signs as signs
use Rattle.vet_rules.specs.Signs.{Sign}
use Rattle.vet_rules.specs.Grammar.{path_in}
use Rattle.vet_rules.specs.declared.fixed.Fixed.{Fixed}
use Rattle.vet_rules.specs.Reading.{one_at, or_fails, before, next_word}

pub ok_is : {A : Type 0} (x y : A) → ◌≡◌ {A = Result A Stop} (Ok x) (Ok y) → x ≡ y
ok_is x y e = cc

one_by : {A : Type 0} (x : Expected) (t : Sign) (ts : List Sign) (y : A × List Sign) (o : Option A) → or_fails x (t ∷ ts) (before ts o) ≡ Ok y → (o ≡ Some y.0) × (ts ≡ y.1)
one_by x t ts y (Some v) e = let same : (v, ts) ≡ y = ok_is (v, ts) y e in (ap (λ z. Some z.0) same, ap (λ z. z.1) same)
one_by x t ts y None e = absurd cc

pub one_is : {A : Type 0} (seen : Sign → Option A) (x : Expected) (ts : List Sign) (y : A × List Sign) → one_at seen x ts ≡ Ok y → (t : Sign) × (ts ≡ t ∷ y.1) × (seen t ≡ Some y.0)
unfolding one_at
one_is seen x [] y e = absurd cc
one_is seen x (t ∷ ts) y e = let p = one_by x t ts y (seen t) e in (t, ap (λ (us : List Sign). t ∷ us) p.1, p.0)

pub one_found : {A : Type 0} (seen : Sign → Option A) (x : Expected) (t : Sign) (ts : List Sign) (v : A) → seen t ≡ Some v → one_at seen x (t ∷ ts) ≡ Ok (v, ts)
unfolding one_at
one_found seen x t ts v e = rw e refl

pub one_shortens : {A : Type 0} (seen : Sign → Option A) (x : Expected) (ts : List Sign) (y : A × List Sign) → one_at seen x ts ≡ Ok y → length y.1 < length ts
one_shortens seen x ts y e = let p = one_is seen x ts y e in omega (arith, ap length p.1)

pub path_no_word : (w : Fixed) (t : Sign) (ts : List Sign) (path : List ℕ) → path_in t ≡ Some path → next_word w (t ∷ ts) ≡ None
unfolding next_word
path_no_word w (signs.Word f) ts path h = absurd cc
path_no_word w t ts path h = refl
