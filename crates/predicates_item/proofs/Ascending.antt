-- Ascending lists: a stable sort gives `ascending`, and what remains of two is found in one pass.
use Rattle.std.proofs.Common.{◌≡◌, ℕ, zero, suc, ◌+◌, ◌<◌, ◌≤◌, Bool, true, false, not, ◌&&◌, cond, List, [], ◌∷◌, ◌++◌, length, get_or, drop, drop-cons, length-drop, add-one, append_assoc, Ordering, sym, refl, ap, ◌∙◌, arith}
use mathlib.Core.Bool.{true≢false}
use Rattle.std.specs.Ordering.{is_lt, is_eq, eq_by_cmp, ordering_reverse}
use Rattle.std.specs.declared.cmp.Ordering.TheVariants.{Less, Equal, Greater}
use Rattle.std.specs.Cmp.{IsTotalOrder, IsStrictWeakOrder}
use Rattle.std.specs.List.{AllByRecursion, filter}
use Rattle.std.specs.List.Sorted.{IsSorted, IsSortedBy, ties}
use Rattle.std.proofs.lemmas.List.{drop-drop}
use Rattle.std.proofs.lemmas.List.Sorted.{sorted_far, ranks_by}
use Rattle.predicates_item.specs.Members.{has_equal}
use Rattle.predicates_item.specs.Multiset.{placed, ascending, difference, without_one, order_to}

-- no member is less than an earlier one
abbrev pub Rises : {T : Type 0} → (T → T → Bool) → List T → Type 0
Rises lt [] = Unit {0}
Rises lt (x ∷ xs) = AllByRecursion (λ y. lt y x ≡ false) xs × Rises lt xs

-- one pass has found `found` at the places
pub record IsRemaining {T : Type 0} (eq : T → T → Bool) (xs ys found : List T) (place past : ℕ) : Type 0 where
  pub within : place ≤ length xs
  pub past_within : past ≤ length ys
  pub is : found ++ difference eq (drop place xs) (drop past ys) ≡ difference eq xs ys

not_both : {b : Bool} → b ≡ true → b ≡ false → ⊥
not_both t f = true≢false (sym t ∙ f)

has_members : {T : Type 0} → List T → Bool
has_members [] = false
has_members (x ∷ xs) = true

no_cons : {T : Type 0} {x : T} {xs : List T} → x ∷ xs ≡ [] → ⊥
unfolding has_members
no_cons e = true≢false (ap has_members e)

module _ {T : Type 0} {lt : T → T → Bool} (weak : IsStrictWeakOrder lt) where
  itself : (x : T) → lt x x ≡ false
  itself x = decide (lt x x) refl where
    decide : (b : Bool) → lt x x ≡ b → lt x x ≡ false
    decide false e = e
    decide true e = weak.one_way x x e

  tied_itself : (x : T) → ties lt x x ≡ true
  tied_itself x = rw (itself x) refl

  -- what is below x is below whatever is not below x
  below_all : (b x y : T) → lt b x ≡ true → lt y x ≡ false → lt b y ≡ true
  below_all b x y below not_less = decide (lt b y) refl where
    decide : (c : Bool) → lt b y ≡ c → lt b y ≡ true
    decide true e = e
    decide false e = absurd (not_both below (weak.chain b y x e not_less))

  not_tied : (b y : T) → lt b y ≡ true → ties lt b y ≡ false
  not_tied b y e = ap (λ c. not c && not (lt y b)) e

  none_tied : (b x : T) (xs : List T) → lt b x ≡ true → AllByRecursion (λ y. lt y x ≡ false) xs → filter (ties lt b) xs ≡ []
  none_tied b x [] below all = refl
  none_tied b x (y ∷ ys) below all = rw (not_tied b y (below_all b x y below all.0)) (none_tied b x ys below all.1)

  -- the head of the list with a member tied to it
  none_in : (b x : T) (xs : List T) → lt b x ≡ true → Rises lt (x ∷ xs) → filter (ties lt b) (x ∷ xs) ≡ []
  none_in b x xs below rises = rw (not_tied b x below) (none_tied b x xs below rises.0)

  own_first : (b : T) (bs : List T) → filter (ties lt b) (b ∷ bs) ≡ b ∷ filter (ties lt b) bs
  own_first b bs = rw (tied_itself b) refl

  -- two heads whose lists have the same tied members
  module _ (a b : T) (xs ys : List T) (same : (z : T) → filter (ties lt z) (a ∷ xs) ≡ filter (ties lt z) (b ∷ ys)) where
    head_not_above : Rises lt (a ∷ xs) → lt b a ≡ false
    head_not_above rises = decide (lt b a) refl where
      decide : (c : Bool) → lt b a ≡ c → lt b a ≡ false
      decide false e = e
      decide true e = absurd (no_cons (sym (own_first b ys) ∙ sym (same b) ∙ none_in b a xs e rises))

  same_heads : (a b : T) (xs ys : List T) → ((z : T) → filter (ties lt z) (a ∷ xs) ≡ filter (ties lt z) (b ∷ ys)) → Rises lt (a ∷ xs) → Rises lt (b ∷ ys) → a ≡ b
  same_heads a b xs ys same up down =
      let below = head_not_above a b xs ys same up in
      let above = head_not_above b a ys xs (λ z. sym (same z)) down in
      let tied : ties lt b a ≡ true = rw below (rw above refl) in
      let first : filter (ties lt b) (a ∷ xs) ≡ a ∷ filter (ties lt b) xs = rw tied refl in
      cons_head (sym first ∙ same b ∙ own_first b ys) where
        cons_head : {x y : T} {us vs : List T} → x ∷ us ≡ y ∷ vs → x ≡ y
        cons_head e = cc

  tails_tied : (x : T) (xs ys : List T) (z : T) → filter (ties lt z) (x ∷ xs) ≡ filter (ties lt z) (x ∷ ys) → filter (ties lt z) xs ≡ filter (ties lt z) ys
  tails_tied x xs ys z same = decide (ties lt z x) same where
    tail_is : (us vs : List T) → x ∷ us ≡ x ∷ vs → us ≡ vs
    tail_is us vs e = cc

    decide : (c : Bool) → cond c (x ∷ filter (ties lt z) xs) (filter (ties lt z) xs) ≡ cond c (x ∷ filter (ties lt z) ys) (filter (ties lt z) ys) → filter (ties lt z) xs ≡ filter (ties lt z) ys
    decide true e = tail_is _ _ e
    decide false e = e

  -- two rising lists are the same where each value has the same tied members in both
  pub one_order : (xs ys : List T) → Rises lt xs → Rises lt ys → ((z : T) → filter (ties lt z) xs ≡ filter (ties lt z) ys) → xs ≡ ys
  one_order [] [] up down same = refl
  one_order [] (y ∷ ys) up down same = absurd (no_cons (sym (same y ∙ own_first y ys)))
  one_order (x ∷ xs) [] up down same = absurd (no_cons (sym (own_first x xs) ∙ same x))
  one_order (x ∷ xs) (y ∷ ys) up down same =
      let head = same_heads x y xs ys same up down in
      let rest = one_order xs ys up.1 down.1 (λ z. tails_tied x xs ys z (same z ∙ ap (λ w. filter (ties lt z) (w ∷ ys)) (sym head))) in
      ap (λ w. w ∷ xs) head ∙ ap (λ ws. y ∷ ws) rest

module _ {T : Type 0} (cmp : T → T → Ordering) (weak : IsStrictWeakOrder (λ x y. is_lt (cmp x y))) where
  abbrev below : T → T → Bool
  below x y = is_lt (cmp x y)

  -- a list with one member more, in its place
  either : (P : List T → Type 0) (c : Bool) (us vs : List T) → (c ≡ true → P us) → (c ≡ false → P vs) → P (cond c us vs)
  either P true us vs first second = first refl
  either P false us vs first second = second refl

  all_placed : (P : T → Type 0) (x : T) (xs : List T) → P x → AllByRecursion P xs → AllByRecursion P (placed cmp x xs)
  all_placed P x [] px all = (px, tt)
  all_placed P x (y ∷ ys) px all = either (AllByRecursion P) (below y x) _ _ (λ e. (all.0, all_placed P x ys px all.1)) (λ e. (px, all))

  not_below : (x y : T) (ys : List T) → below y x ≡ false → AllByRecursion (λ z. below z y ≡ false) ys → AllByRecursion (λ z. below z x ≡ false) ys
  not_below x y [] first all = tt
  not_below x y (z ∷ zs) first all = (weak.chain z y x all.0 first, not_below x y zs first all.1)

  rises_placed : (x : T) (xs : List T) → Rises below xs → Rises below (placed cmp x xs)
  rises_placed x [] rises = (tt, tt)
  rises_placed x (y ∷ ys) rises = either (Rises below) (below y x) _ _
      (λ e. (all_placed (λ z. below z y ≡ false) x ys (weak.one_way y x e) rises.0, rises_placed x ys rises.1))
      (λ e. ((e, not_below x y ys e rises.0), rises))

  pub rises_ascending : (xs : List T) → Rises below (ascending cmp xs)
  rises_ascending [] = tt
  rises_ascending (x ∷ xs) = rises_placed x (ascending cmp xs) (rises_ascending xs)

  -- of two values, one below the other, at most one is tied to a third
  neither : (a b : Bool) → (not a && not b) ≡ true → (a ≡ false) × (b ≡ false)
  neither false false e = (refl, refl)
  neither false true e = absurd (true≢false (sym e))
  neither true b e = absurd (true≢false (sym e))

  one_tied : (x y z : T) → below y x ≡ true → ties below z x ≡ true → ties below z y ≡ true → ⊥
  one_tied x y z less tied_x tied_y = not_both less (weak.chain y z x (neither (below z y) (below y z) tied_y).1 (neither (below z x) (below x z) tied_x).0)

  moved : (x y : T) (p q : Bool) (us : List T) → (p ≡ true → q ≡ true → ⊥) → cond q (y ∷ cond p (x ∷ us) us) (cond p (x ∷ us) us) ≡ cond p (x ∷ cond q (y ∷ us) us) (cond q (y ∷ us) us)
  moved x y true true us never = absurd (never refl refl)
  moved x y true false us never = refl
  moved x y false true us never = refl
  moved x y false false us never = refl

  tied_placed : (z x : T) (xs : List T) → filter (ties below z) (placed cmp x xs) ≡ filter (ties below z) (x ∷ xs)
  tied_placed z x [] = refl
  tied_placed z x (y ∷ ys) = either (λ us. filter (ties below z) us ≡ filter (ties below z) (x ∷ y ∷ ys)) (below y x) _ _
      (λ e. ap (λ us. cond (ties below z y) (y ∷ us) us) (tied_placed z x ys) ∙ moved x y (ties below z x) (ties below z y) (filter (ties below z) ys) (one_tied x y z e))
      (λ e. refl)

  pub tied_ascending : (z : T) (xs : List T) → filter (ties below z) (ascending cmp xs) ≡ filter (ties below z) xs
  tied_ascending z [] = refl
  tied_ascending z (x ∷ xs) = tied_placed z x (ascending cmp xs) ∙ ap (λ us. cond (ties below z x) (x ∷ us) us) (tied_ascending z xs)

module _ {T : Type 0} (lt : T → T → Bool) where
  all_from : (x : T) (ys : List T) → ((j : ℕ) → j < length ys → lt (get_or ys j x) x ≡ false) → AllByRecursion (λ y. lt y x ≡ false) ys
  all_from x [] each = tt
  all_from x (y ∷ ys) each = (each 0 (omega arith), all_from x ys (λ j h. each (suc j) (omega (arith, h))))

  -- a member that is not less than any earlier one rises
  rises_from_far : (xs : List T) → ((i j : ℕ) (d : T) → i ≤ j → j < length xs → lt (get_or xs j d) (get_or xs i d) ≡ false) → Rises lt xs
  rises_from_far [] far = tt
  rises_from_far (x ∷ xs) far = (all_from x xs (λ j h. far 0 (suc j) x (omega arith) (omega (arith, h))), rises_from_far xs (λ i j d h k. far (suc i) (suc j) d (omega (arith, h)) (omega (arith, k))))

  pub rises_from_sorted : IsStrictWeakOrder lt → (xs : List T) → IsSortedBy lt xs → Rises lt xs
  rises_from_sorted weak xs sorted = rises_from_far xs (sorted_far lt weak xs sorted)

  pub rises_dropped : (n : ℕ) (xs : List T) → Rises lt xs → Rises lt (drop n xs)
  rises_dropped zero xs rises = rises
  rises_dropped (suc n) [] rises = tt
  rises_dropped (suc n) (x ∷ xs) rises = rises_dropped n xs rises.1

-- one step of a pass over two rising lists
module _ {T : Type 0} {eq : T → T → Bool} {cmp : T → T → Ordering} (total : IsTotalOrder cmp) (agree : (x y : T) → eq x y ≡ eq_by_cmp cmp x y) where
  weak : IsStrictWeakOrder (λ x y. is_lt (cmp x y))
  weak = ranks_by total (λ x. x)

  equal_back : (x y : T) → cmp x y ≡ Less → eq y x ≡ false
  equal_back x y less = agree y x ∙ ap is_eq (total.antisymm y x ∙ ap ordering_reverse less)

  equal_there : (x y : T) → cmp x y ≡ Less → eq x y ≡ false
  equal_there x y less = agree x y ∙ ap is_eq less

  less_is : (o : Ordering) → is_lt o ≡ true → o ≡ Less
  less_is Less e = refl
  less_is Equal e = absurd (true≢false (sym e))
  less_is Greater e = absurd (true≢false (sym e))

  less_than_all : (x y : T) (ys : List T) → cmp x y ≡ Less → AllByRecursion (λ z. is_lt (cmp z y) ≡ false) ys → AllByRecursion (λ z. cmp x z ≡ Less) ys
  less_than_all x y [] less all = tt
  less_than_all x y (z ∷ zs) less all = (less_is (cmp x z) (below_all weak x y z (ap is_lt less) all.0), less_than_all x y zs less all.1)

  no_equal : (x : T) (ys : List T) → AllByRecursion (λ z. cmp x z ≡ Less) ys → has_equal eq ys x ≡ false
  no_equal x [] all = refl
  no_equal x (y ∷ ys) all = rw (equal_back x y all.0) (no_equal x ys all.1)

  -- the first member is below all that is taken away
  remains : (x : T) (xs ys : List T) → order_to cmp (x ∷ xs) ys ≡ Less → Rises (λ a b. is_lt (cmp a b)) ys → difference eq (x ∷ xs) ys ≡ x ∷ difference eq xs ys
  remains x xs [] less rises = refl
  remains x xs (y ∷ ys) less rises = rw (no_equal x (y ∷ ys) (less, less_than_all x y ys less rises.0)) refl

  -- it is the first that is taken away
  is_taken : (x : T) (xs : List T) (y : T) (ys : List T) → cmp x y ≡ Equal → difference eq (x ∷ xs) (y ∷ ys) ≡ difference eq xs ys
  is_taken x xs y ys same =
      let equal : eq y x ≡ true = agree y x ∙ ap is_eq (total.antisymm y x ∙ ap ordering_reverse same) in
      rw equal refl

  -- what is below all members takes none away
  takes_none : (y : T) (xs ys : List T) → AllByRecursion (λ z. cmp y z ≡ Less) xs → difference eq xs (y ∷ ys) ≡ difference eq xs ys
  takes_none y [] ys all = refl
  takes_none y (x ∷ xs) ys all = rw (equal_there y x all.0) (pick (has_equal eq ys x) (takes_none y xs (without_one eq ys x) all.1) (takes_none y xs ys all.1)) where
    pick : (c : Bool) {us vs ws zs : List T} → us ≡ vs → ws ≡ zs → cond c us (x ∷ ws) ≡ cond c vs (x ∷ zs)
    pick true e f = e
    pick false e f = ap (λ us. x ∷ us) f

  is_past : (x : T) (xs : List T) (y : T) (ys : List T) → cmp x y ≡ Greater → Rises (λ a b. is_lt (cmp a b)) (x ∷ xs) → difference eq (x ∷ xs) (y ∷ ys) ≡ difference eq (x ∷ xs) ys
  is_past x xs y ys greater rises =
      let less : cmp y x ≡ Less = total.antisymm y x ∙ ap ordering_reverse greater in
      takes_none y (x ∷ xs) ys (less, less_than_all y x xs less rises.0)

  -- where the first member is not below, there is one to take away
  some_left : (us vs : List T) → is_lt (order_to cmp us vs) ≡ false → 0 < length vs
  some_left [] vs e = absurd (true≢false e)
  some_left (u ∷ us) [] e = absurd (true≢false e)
  some_left (u ∷ us) (v ∷ vs) e = omega arith

  equal_step : (us vs : List T) → order_to cmp us vs ≡ Equal → difference eq us vs ≡ difference eq (drop 1 us) (drop 1 vs)
  equal_step [] vs e = absurd (true≢false (ap is_lt e))
  equal_step (u ∷ us) [] e = absurd (true≢false (ap is_lt e))
  equal_step (u ∷ us) (v ∷ vs) e = is_taken u us v vs e

  greater_step : (us vs : List T) → order_to cmp us vs ≡ Greater → Rises (λ a b. is_lt (cmp a b)) us → difference eq us vs ≡ difference eq us (drop 1 vs)
  greater_step [] vs e rises = absurd (true≢false (ap is_lt e))
  greater_step (u ∷ us) [] e rises = absurd (true≢false (ap is_lt e))
  greater_step (u ∷ us) (v ∷ vs) e rises = is_past u us v vs e rises

  -- the same at places of two sorted lists
  module _ {xs ys : List T} (sorted_xs : IsSorted cmp xs) (sorted_ys : IsSorted cmp ys) {found : List T} {place past : ℕ} (was : IsRemaining eq xs ys found place past) (more : place < length xs) where
    abbrev lt : T → T → Bool
    lt a b = is_lt (cmp a b)

    up_xs : Rises lt (drop place xs)
    up_xs = rises_dropped lt place xs (rises_from_sorted lt weak xs sorted_xs)

    up_ys : Rises lt (drop past ys)
    up_ys = rises_dropped lt past ys (rises_from_sorted lt weak ys sorted_ys)

    pub remaining_less : order_to cmp (drop place xs) (drop past ys) ≡ Less → (x : T) → x ≡ get_or xs place x → IsRemaining eq xs ys (found ++ x ∷ []) (place + 1) past
    remaining_less less x read =
        let first : drop place xs ≡ x ∷ drop (place + 1) xs = rw (add-one place) (drop-cons xs place x more ∙ ap (λ y. y ∷ drop (suc place) xs) (sym read)) in
        let kept = remains x (drop (place + 1) xs) (drop past ys) (sym (ap (λ us. order_to cmp us (drop past ys)) first) ∙ less) up_ys in
        record {
          within = omega (arith, more);
          past_within = was.past_within;
          is = append_assoc found (x ∷ []) (difference eq (drop (place + 1) xs) (drop past ys)) ∙ ap (λ us. found ++ us) (sym (ap (λ us. difference eq us (drop past ys)) first ∙ kept)) ∙ was.is;
        }

    pub remaining_equal : order_to cmp (drop place xs) (drop past ys) ≡ Equal → IsRemaining eq xs ys found (place + 1) (past + 1)
    remaining_equal same = record {
      within = omega (arith, more);
      past_within = omega (arith, was.past_within, length-drop past ys, some_left (drop place xs) (drop past ys) (ap is_lt same));
      is = ap (λ us. found ++ us) (sym (equal_step (drop place xs) (drop past ys) same ∙ ap (λ us. difference eq us (drop 1 (drop past ys))) (drop-drop 1 place xs) ∙ ap (λ us. difference eq (drop (place + 1) xs) us) (drop-drop 1 past ys))) ∙ was.is;
    }

    pub remaining_greater : order_to cmp (drop place xs) (drop past ys) ≡ Greater → IsRemaining eq xs ys found place (past + 1)
    remaining_greater greater = record {
      within = was.within;
      past_within = omega (arith, was.past_within, length-drop past ys, some_left (drop place xs) (drop past ys) (ap is_lt greater));
      is = ap (λ us. found ++ us) (sym (greater_step (drop place xs) (drop past ys) greater up_xs ∙ ap (λ us. difference eq (drop place xs) us) (drop-drop 1 past ys))) ∙ was.is;
    }
