-- How many of several parts have a truth, how many decide a threshold, and that a formula takes both values.
use Rattle.std.proofs.Common.{◌≡◌, ◌⊎◌, ℕ, suc, ◌+◌, ◌<◌, ◌≤◌, List, ◌++◌, Bool, true, false, take, drop, refl, sym, ap, ◌∙◌, arith, [], ◌∷◌, length, length-append}
use Rattle.std.specs.Prelude.{not, nat_le, ◌&&◌, ◌||◌}
use Rattle.std.proofs.lemmas.List.{take_at, drop_at}
use Rattle.std.proofs.lemmas.Bool.Decides.{nat_tests}
use mathlib.Core.Bool.{beq}
use Rattle.predicates_core.specs.Label.{Label}
use Rattle.predicates_core.specs.declared.custom.join.Operator.TheVariants.{And, Or, Xor}
use Rattle.predicates_core.specs.Formula.{Formula, Formulas, one, more, Join, AtLeast, number_of_parts, needed, enough_of, one_if, size, IsValuation, value, value_of_parts, holding, actual, actual_of_parts, truth, Leaf, Not, Named, differ, size_of_parts}
use Rattle.predicates_core.proofs.Joins.{length-actual, joins, joined_value}
use Rattle.predicates_core.proofs.Values.{needed_some, needed_within, needed_is, number_some, beq_same, beq_other, not-not}

abbrev pub like : Bool → Formulas → List Bool → ℕ
like b (one name f) w = one_if (beq (value f w) b)
like b (more name f fs) w = one_if (beq (value f (take (size f) w)) b) + like b fs (drop (size f) w)

pub either : (x b : Bool) → (x ≡ b) ⊎ (x ≡ not b)
either x b = grind arith

pub one_like : (x b : Bool) → x ≡ b → one_if (beq x b) ≡ 1
one_like x b e = ap one_if (beq_same x b e)

pub none_like : (x b : Bool) → x ≡ not b → one_if (beq x b) ≡ 0
none_like x b e = ap one_if (beq_other x b e)

pub one_at_most : (x b : Bool) → one_if (beq x b) ≤ 1
one_at_most x b = grind arith

pub like_by_one : (x b : Bool) → 1 ≤ one_if (beq x b) → x ≡ b
like_by_one x b h = grind arith

pub like_joined : (b : Bool) (n : List ℕ) (f : Formula) (fs : Formulas) (v w : List Bool) → IsValuation f v → like b (more n f fs) (v ++ w) ≡ one_if (beq (value f v) b) + like b fs w
like_joined b n f fs v w e = rw (take_at v w (size f) e, drop_at v w (size f) e) refl

one_each : (b x : Bool) → one_if (beq x b) + one_if (beq x (not b)) ≡ 1
one_each b x = grind arith

-- each part has the truth or its opposite
pub like_all : (b : Bool) (fs : Formulas) (w : List Bool) → like b fs w + like (not b) fs w ≡ number_of_parts fs
like_all b (one n f) w = one_each b (value f w)
like_all b (more n f fs) w = let ih = like_all b fs (drop (size f) w) in let e = one_each b (value f (take (size f) w)) in omega (arith, ih, e)

same_one : (x : Bool) → one_if (beq x true) ≡ one_if x
same_one x = grind arith

like-holding : (fs : Formulas) (w : List Bool) → like true fs w ≡ holding fs w
unfolding value
like-holding (one n f) w = same_one (value f w)
like-holding (more n f fs) w = cc (same_one (value f (take (size f) w)), like-holding fs (drop (size f) w))

pub like-one : (b : Bool) (n : List ℕ) (f : Formula) → like b (one n f) (actual_of_parts (one n f)) ≡ one_if (beq (truth f) b)
unfolding actual truth
like-one b n f = refl

pub like-actual : (b : Bool) (n : List ℕ) (f : Formula) (fs : Formulas) → like b (more n f fs) (actual_of_parts (more n f fs)) ≡ one_if (beq (truth f) b) + like b fs (actual_of_parts fs)
unfolding actual truth
like-actual b n f fs = like_joined b n f fs (actual f) (actual_of_parts fs) (length-actual f)

-- how many parts are such
abbrev pub many : (Formula → Bool) → Formulas → ℕ
many such (one n f) = one_if (such f)
many such (more n f fs) = one_if (such f) + many such fs

-- the part has the truth
abbrev pub is_like : Bool → Formula → Bool
is_like b f = beq (truth f) b

pub many_like : (b : Bool) (fs : Formulas) → many (is_like b) fs ≡ like b fs (actual_of_parts fs)
many_like b (one n f) = sym (like-one b n f)
many_like b (more n f fs) = let e = like-actual b n f fs in let ih = many_like b fs in omega (arith, e, ih)

-- how many parts with the truth decide it
abbrev pub decisive : Bool → ℕ → Formulas → ℕ
decisive b k fs = enough_of b (needed k fs) (number_of_parts fs)

pub decisive_some : (b : Bool) (k : ℕ) (fs : Formulas) → 1 ≤ decisive b k fs
decisive_some true k fs = needed_some k fs
decisive_some false k fs = let within = needed_within k fs in omega (arith, within)

-- so many parts with the one truth decide, or more than the others with the other
pub decisive_all : (b : Bool) (k : ℕ) (fs : Formulas) → decisive b k fs + decisive (not b) k fs ≡ suc (number_of_parts fs)
decisive_all true k fs = let e = needed_within k fs in omega (arith, e)
decisive_all false k fs = let e = needed_within k fs in omega (arith, e)

-- the threshold has the truth just where so many parts do
pub reached_by : (b : Bool) (k : ℕ) (label : Label) (fs : Formulas) (w : List Bool) → value (AtLeast k label fs) w ≡ b → decisive b k fs ≤ like b fs w
unfolding value
reached_by true k label fs w e = let h = like-holding fs w in grind (arith, nat_tests)
reached_by false k label fs w e =
    let h = like-holding fs w in
    let s = like_all true fs w in
    let l : holding fs w < needed k fs = grind (arith, nat_tests) in
    omega (arith, h, s, l)

pub by_reached : (b : Bool) (k : ℕ) (label : Label) (fs : Formulas) (w : List Bool) → decisive b k fs ≤ like b fs w → value (AtLeast k label fs) w ≡ b
unfolding value
by_reached true k label fs w e = let h = like-holding fs w in grind (arith, nat_tests)
by_reached false k label fs w e =
    let h = like-holding fs w in
    let s = like_all true fs w in
    let n = needed_within k fs in
    let l : holding fs w < needed k fs = omega (arith, e, h, s, n) in
    grind (arith, nat_tests)

pub decided_by_parts : (b : Bool) (k : ℕ) (label : Label) (fs : Formulas) → truth (AtLeast k label fs) ≡ b → decisive b k fs ≤ like b fs (actual_of_parts fs)
unfolding actual truth
decided_by_parts b k label fs is = reached_by b k label fs (actual_of_parts fs) is

pub truth_by_parts : (b : Bool) (k : ℕ) (label : Label) (fs : Formulas) → decisive b k fs ≤ like b fs (actual_of_parts fs) → truth (AtLeast k label fs) ≡ b
unfolding actual truth
truth_by_parts b k label fs h = by_reached b k label fs (actual_of_parts fs) h

-- an `and` is the threshold of all its parts, an `or` that of one
one_within : (x : Bool) → one_if x ≤ 1
one_within x = grind arith

alone : (x : Bool) → x ≡ nat_le 1 (one_if x)
alone x = grind (arith, nat_tests)

one_further : (x : Bool) (h : ℕ) → (x || nat_le 1 h) ≡ nat_le 1 (one_if x + h)
one_further x h = grind (arith, nat_tests)

all_further : (x : Bool) (n h : ℕ) → h ≤ n → (x && nat_le n h) ≡ nat_le (suc n) (one_if x + h)
all_further x n h within = grind (arith, nat_tests)

holding_within : (fs : Formulas) (w : List Bool) → holding fs w ≤ number_of_parts fs
unfolding value
holding_within (one n f) w = one_within (value f w)
holding_within (more n f fs) w = let ih = holding_within fs (drop (size f) w) in let o = one_within (value f (take (size f) w)) in omega (arith, ih, o)

all_of : (fs : Formulas) (w : List Bool) → value_of_parts And fs w ≡ nat_le (number_of_parts fs) (holding fs w)
unfolding value
all_of (one n f) w = alone (value f w)
all_of (more n f fs) w = ap (λ z. value f (take (size f) w) && z) (all_of fs (drop (size f) w)) ∙ all_further (value f (take (size f) w)) (number_of_parts fs) (holding fs (drop (size f) w)) (holding_within fs (drop (size f) w))

one_of : (fs : Formulas) (w : List Bool) → value_of_parts Or fs w ≡ nat_le 1 (holding fs w)
unfolding value
one_of (one n f) w = alone (value f w)
one_of (more n f fs) w = ap (λ z. value f (take (size f) w) || z) (one_of fs (drop (size f) w)) ∙ one_further (value f (take (size f) w)) (holding fs (drop (size f) w))

pub and_value : (label : Label) (fs : Formulas) (w : List Bool) → value (Join And label fs) w ≡ value (AtLeast (number_of_parts fs) label fs) w
unfolding value
and_value label fs w = all_of fs w ∙ ap (λ z. nat_le z (holding fs w)) (sym (needed_is (number_of_parts fs) fs (number_some fs) (omega arith)))

pub or_value : (label : Label) (fs : Formulas) (w : List Bool) → value (Join Or label fs) w ≡ value (AtLeast 1 label fs) w
unfolding value
or_value label fs w = one_of fs w ∙ ap (λ z. nat_le z (holding fs w)) (sym (needed_is 1 fs (omega arith) (number_some fs)))

-- ---- a formula takes both values

abbrev Reaches : Formula → Bool → Type 0
Reaches f b = (w : List Bool) × IsValuation f w × (value f w ≡ b)

-- each of the parts has the value
abbrev EachReaches : Formulas → Bool → Type 0
EachReaches fs b = (w : List Bool) × (length w ≡ size_of_parts fs) × (like b fs w ≡ number_of_parts fs)

by_each : (k : ℕ) (label : Label) (fs : Formulas) (b : Bool) → EachReaches fs b → Reaches (AtLeast k label fs) b
unfolding size
by_each k label fs b e =
    let all = decisive_all b k fs in
    let some = decisive_some (not b) k fs in
    (e.0, e.1, by_reached b k label fs e.0 (omega (arith, all, some, e.2)))

differ_false : (b : Bool) → differ b false ≡ b
differ_false b = grind arith

mutual
  unfolding size value

  pub reaches : (f : Formula) (b : Bool) → Reaches f b
  reaches (Leaf label t) b = (b ∷ [], refl, refl)
  reaches (Join And label fs) b = let r = by_each (number_of_parts fs) label fs b (each_reaches fs b) in (r.0, r.1, and_value label fs r.0 ∙ r.2)
  reaches (Join Or label fs) b = let r = by_each 1 label fs b (each_reaches fs b) in (r.0, r.1, or_value label fs r.0 ∙ r.2)
  reaches (Join Xor label fs) b = odd_reaches label fs b
  reaches (Not label f) b = let r = reaches f (not b) in (r.0, r.1, ap not r.2 ∙ not-not b)
  reaches (Named label name f) b = reaches f b
  reaches (AtLeast k label fs) b = by_each k label fs b (each_reaches fs b)

  each_reaches : (fs : Formulas) (b : Bool) → EachReaches fs b
  each_reaches (one n f) b = let r = reaches f b in (r.0, r.1, one_like (value f r.0) b r.2)
  each_reaches (more n f fs) b =
      let r = reaches f b in
      let rs = each_reaches fs b in
      let here = one_like (value f r.0) b r.2 in
      (r.0 ++ rs.0, omega (arith, length-append r.0 rs.0, r.1, rs.1), let j = like_joined b n f fs r.0 rs.0 r.1 in omega (arith, j, here, rs.2))

  odd_reaches : (label : Label) (fs : Formulas) (b : Bool) → Reaches (Join Xor label fs) b
  odd_reaches label (one n f) b = reaches f b
  odd_reaches label (more n f fs) b =
      let r = reaches f b in
      let rs = odd_reaches label fs false in
      (r.0 ++ rs.0, omega (arith, length-append r.0 rs.0, r.1, rs.1), joined_value (joins Xor label n f fs) r.0 rs.0 r.1 ∙ cc (r.2, rs.2, differ_false b))
