-- One step of a search by halving.
use Rattle.std.proofs.Common.{◌≡◌, ℕ, ◌+◌, ◌-◌, ◌<◌, ◌≤◌, ◌/◌, ◌^◌, Bool, true, false, cond, ◌||◌, nat_lt, List, length, get_or, take, drop, length-take, length-drop, Ordering, sym, refl, ap, ◌∙◌, arith}
use Rattle.std.specs.Ordering.{ordering_index, is_eq, is_lt, eq_by_cmp}
use Rattle.std.specs.declared.cmp.Ordering.TheVariants.{Less, Equal, Greater}
use Rattle.std.specs.List.{All}
use Rattle.std.specs.List.Sorted.{IsNonDecreasingBy}
use Rattle.std.proofs.lemmas.Bool.{lt-ltb}
use Rattle.std.proofs.lemmas.List.{take-append-drop, take_all, take-take, drop-take, drop-drop, get_or-take, get_or-drop}
use Rattle.std.proofs.lemmas.List.Elements.{All-from_get_or}
use Rattle.std.proofs.lemmas.List.Sorted.{IsNonDecreasingBy-take, IsNonDecreasingBy-drop}
use Rattle.std.proofs.lemmas.List.Folds.{list_any-append, list_any_none, list_any_at}
use Rattle.std.proofs.lemmas.Int.Digits.{length-digits_of-le}
use Rattle.predicates_item.specs.Digits.{digits, digits_more}
use Rattle.predicates_item.specs.Members.{has_equal}

or_false : (b : Bool) → (b || false) ≡ b
or_false true = refl
or_false false = refl

not_equal_below : (o : Ordering) → ordering_index o ≤ 0 → is_eq o ≡ false
not_equal_below Less h = refl
not_equal_below Equal h = absurd (omega arith)
not_equal_below Greater h = refl

not_equal_above : (o : Ordering) → 2 ≤ ordering_index o → is_eq o ≡ false
not_equal_above Less h = refl
not_equal_above Equal h = absurd (omega arith)
not_equal_above Greater h = refl

module _ {T : Type 0} (eq : T → T → Bool) (cmp : T → T → Ordering) (agree : (x y : T) → eq x y ≡ eq_by_cmp cmp x y) (item : T) (xs : List T) (rises : IsNonDecreasingBy (λ x. ordering_index (cmp x item)) xs) where
  pub has_equal-after_less : (i : ℕ) (d : T) → i < length xs → cmp (get_or xs i d) item ≡ Less → has_equal eq xs item ≡ has_equal eq (drop (i + 1) xs) item
  has_equal-after_less i d below less =
      let at_i : ordering_index (cmp (get_or xs i d) item) ≡ 0 = ap ordering_index less in
      let passed : All (λ x. eq x item ≡ false) (take (i + 1) xs) =
      All-from_get_or (λ x. eq x item ≡ false) (take (i + 1) xs) d
      (λ k h.
      let l : k < i + 1 = omega (arith, length-take {A = T}) in
      rw (get_or-take (i + 1) xs k d l) (agree (get_or xs k d) item ∙ not_equal_below _ (omega (arith, rises k i d (omega arith) below)))) in
      ap (λ all. has_equal eq all item) (sym (take-append-drop (i + 1) xs))
      ∙ list_any-append (λ x. eq x item) (take (i + 1) xs) (drop (i + 1) xs)
      ∙ ap (λ first. first || has_equal eq (drop (i + 1) xs) item) (list_any_none (λ x. eq x item) (take (i + 1) xs) passed)

  pub has_equal-before_greater : (i n : ℕ) (d : T) → i < length xs → i ≤ n → cmp (get_or xs i d) item ≡ Greater → has_equal eq xs item ≡ has_equal eq (take n xs) item
  has_equal-before_greater i n d below upto greater =
      let at_i : ordering_index (cmp (get_or xs i d) item) ≡ 2 = ap ordering_index greater in
      let passed : All (λ x. eq x item ≡ false) (drop n xs) =
      All-from_get_or (λ x. eq x item ≡ false) (drop n xs) d
      (λ k h.
      let l : n + k < length xs = omega (arith, length-drop {A = T}) in
      rw (get_or-drop n xs k d) (agree (get_or xs (n + k) d) item ∙ not_equal_above _ (omega (arith, rises i (n + k) d (omega arith) l)))) in
      ap (λ all. has_equal eq all item) (sym (take-append-drop n xs))
      ∙ list_any-append (λ x. eq x item) (take n xs) (drop n xs)
      ∙ ap (λ last. has_equal eq (take n xs) item || last) (list_any_none (λ x. eq x item) (drop n xs) passed)
      ∙ or_false (has_equal eq (take n xs) item)

-- what a branch chose, by the condition of the branch
pub chosen : {b c : Bool} {n : ℕ} (x y : ℕ) → b ≡ c → n ≡ cond b x y → n ≡ cond c x y
chosen x y e is = is ∙ ap (λ d. cond d x y) e

pub digits-le : (n : ℕ) → n < 2 ^ 64 → digits n ≤ 64
digits-le n h = length-digits_of-le 2 64 n (omega arith) h

-- What some comparisons have told: `left` members from `base` on are still to be searched, and some
-- member is equal where one of them is, or where one was found, which ends at `found`.
pub record IsLeft {T : Type 0} (eq : T → T → Bool) (item : T) (all : List T) (taken base left found : ℕ) : Type 0 where
  pub within : base + left ≤ length all
  pub same : has_equal eq all item ≡ (nat_lt 0 found || has_equal eq (take left (drop base all)) item)
  pub few : taken + digits left ≤ digits (length all)

module _ {T : Type 0} {eq : T → T → Bool} {item : T} {all : List T} {taken base left found : ℕ} (was : IsLeft eq item all taken base left found) where
  -- a comparison can be counted
  pub can_count : 0 < left → length all < 2 ^ 64 → taken + 1 < 2 ^ 64
  can_count some small = omega (arith, was.few, digits_more left some, digits-le (length all) small)

  pub found_at_end : left ≤ 0 → nat_lt 0 found ≡ has_equal eq all item
  found_at_end none =
      let is : left ≡ 0 = omega (arith, none) in
      sym (was.same ∙ ap (λ n. nat_lt 0 found || has_equal eq (take n (drop base all)) item) is ∙ or_false (nat_lt 0 found))

  -- one comparison with the member before `base + half`
  module _ (cmp : T → T → Ordering) (agree : (x y : T) → eq x y ≡ eq_by_cmp cmp x y) (rises : IsNonDecreasingBy (λ x. ordering_index (cmp x item)) all) (some : 0 < left) {half : ℕ} (halves : half ≡ (left + 1) / 2) {xs : List T} (value : xs ≡ all) {member : T} (read : member ≡ get_or xs (base + half - 1) member) where
    all_read : get_or all (base + half - 1) member ≡ member
    all_read = sym (read ∙ ap (λ ys. get_or ys (base + half - 1) member) value)

    abbrev rest : List T
    rest = take left (drop base all)

    rest_rises : IsNonDecreasingBy (λ x. ordering_index (cmp x item)) rest
    rest_rises = IsNonDecreasingBy-take (λ x. ordering_index (cmp x item)) left (drop base all) (IsNonDecreasingBy-drop (λ x. ordering_index (cmp x item)) base all rises)

    in_rest : half - 1 < length rest
    in_rest = omega (arith, some, halves, was.within, length-take left (drop base all), length-drop base all)

    rest_read : get_or rest (half - 1) member ≡ member
    rest_read =
        let at : base + (half - 1) ≡ base + half - 1 = omega (arith, some, halves) in
        get_or-take left (drop base all) (half - 1) member (omega (arith, some, halves)) ∙ get_or-drop base all (half - 1) member ∙ ap (λ k. get_or all k member) at ∙ all_read

    behind : drop (half - 1 + 1) rest ≡ take (left - half) (drop (base + half) all)
    behind =
        let past : half - 1 + 1 ≡ half = omega (arith, some, halves) in
        let whole : left ≡ half + (left - half) = omega (arith, some, halves) in
        ap (λ k. drop k rest) past ∙ ap (λ n. drop half (take n (drop base all))) whole ∙ drop-take half (left - half) (drop base all) ∙ ap (take (left - half)) (drop-drop half base all)

    few_now : taken + 1 + digits (left - half) ≤ digits (length all)
    few_now =
        let is_half : left - half ≡ left / 2 = omega (arith, halves) in
        omega (arith, was.few, digits_more left some, ap digits is_half)

    pub left_now : (order : Ordering) → order ≡ cmp member item → {now further at : ℕ} → now ≡ taken + 1 → further ≡ cond (is_lt order) (base + half) base → at ≡ cond (is_eq order) (base + half) found → IsLeft eq item all now further (left - half) at
    left_now Less compared counted moved kept = record {
      within = omega (arith, moved, halves, was.within);
      same = rw moved (rw kept (was.same ∙ ap (λ b. nat_lt 0 found || b) (has_equal-after_less eq cmp agree item rest rest_rises (half - 1) member in_rest (ap (λ m. cmp m item) rest_read ∙ sym compared) ∙ ap (λ xs. has_equal eq xs item) behind)));
      few = rw counted few_now;
    }
    left_now Equal compared {further = further} counted moved kept = record {
      within = omega (arith, moved, halves, was.within);
      same = rw kept (list_any_at (λ x. eq x item) all (base + half - 1) member (omega (arith, some, halves, was.within)) (ap (λ m. eq m item) all_read ∙ agree member item ∙ ap is_eq (sym compared)) ∙ ap (λ b. b || has_equal eq (take (left - half) (drop further all)) item) (sym (lt-ltb 0 (base + half) (omega (arith, some, halves)))));
      few = rw counted few_now;
    }
    left_now Greater compared counted moved kept = record {
      within = omega (arith, moved, halves, was.within);
      same = rw moved (rw kept (was.same ∙ ap (λ b. nat_lt 0 found || b) (has_equal-before_greater eq cmp agree item rest rest_rises (half - 1) (left - half) member in_rest (omega (arith, halves)) (ap (λ m. cmp m item) rest_read ∙ sym compared) ∙ ap (λ xs. has_equal eq xs item) (take-take (left - half) left (drop base all) (omega arith)))));
      few = rw counted few_now;
    }

-- all members are left at the start
pub left_at_start : {T : Type 0} {eq : T → T → Bool} {item : T} {all : List T} {taken : ℕ} → taken ≡ 0 → IsLeft eq item all taken 0 (length all) 0
left_at_start {eq = eq} {item = item} {all = all} none = record {
  within = omega arith;
  same = ap (λ xs. has_equal eq xs item) (sym (take_all (length all) all (omega arith)));
  few = omega (arith, none);
}
