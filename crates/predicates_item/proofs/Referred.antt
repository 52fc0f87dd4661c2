-- Lists of references, by what they refer to.
use Rattle.std.proofs.Common.{◌≡◌, ℕ, ◌+◌, ◌<◌, Bool, true, false, ◌||◌, ◌&&◌, ◌==◌, cond, List, [], ◌∷◌, length, get_or, Option, Some, Ordering, sym, refl, ap, ◌∙◌, subst, arith}
use denote.Ref.{Bor}
use Rattle.std.specs.Ordering.{is_lt}
use Rattle.std.specs.Cmp.{IsTotalOrder, IsEquivalence}
use Rattle.std.specs.Fmt.{debug_list, debug_items, comma_space, ◌++?◌}
use Rattle.std.specs.List.Sorted.{IsSorted, IsStable}
use Rattle.std.proofs.lemmas.List.{get_or-map, length-map}
use Rattle.std.proofs.lemmas.List.Sorted.{ranks_by}
use Rattle.predicates_core.specs.Describe.{CaseNode}
use Rattle.predicates_core.specs.Label.{Fits}
use Rattle.predicates_core.specs.Leaves.{IsShowing}
use Rattle.predicates_core.specs.Tree.{Tree}
use Rattle.predicates_item.specs.Members.{has_equal}
use Rattle.predicates_item.specs.Multiset.{ascending, placed, difference, without_one, referred, has_same_counts}
use Rattle.predicates_item.proofs.Ascending.{one_order, rises_ascending, rises_from_sorted, tied_ascending}
use Rattle.predicates_item.proofs.Multisets.{difference_by_count, count_ascending, none_lack}

-- a stable sort by an order gives what `ascending` gives
pub sorted_stably : {T : Type 0} (cmp : T → T → Ordering) → IsTotalOrder cmp → (xs ys : List T) → IsSorted cmp ys → IsStable cmp xs ys → ys ≡ ascending cmp xs
sorted_stably cmp total xs ys sorted stable =
    let weak = ranks_by total (λ x. x) in
    one_order weak ys (ascending cmp xs) (rises_from_sorted (λ x y. is_lt (cmp x y)) weak ys sorted) (rises_ascending cmp weak xs) (λ z. stable z ∙ sym (tied_ascending cmp weak z xs))

module _ {T : Type 0} where
  -- which of two lists is meant, behind references and not
  chosen : (c : Bool) (us vs : List (Bor T)) (ws zs : List T) → referred us ≡ ws → referred vs ≡ zs → referred (cond c us vs) ≡ cond c ws zs
  chosen true us vs ws zs e f = e
  chosen false us vs ws zs e f = f

  module _ (cmp : T → T → Ordering) where
    abbrev there : Bor T → Bor T → Ordering
    there r s = cmp r.now s.now

    pub total_there : IsTotalOrder cmp → IsTotalOrder there
    total_there total = record {
      antisymm = λ r s. total.antisymm r.now s.now;
      trans = λ r s t. total.trans r.now s.now t.now;
      congr = λ r s t. total.congr r.now s.now t.now;
    }

    referred-placed : (r : Bor T) (rs : List (Bor T)) → referred (placed there r rs) ≡ placed cmp r.now (referred rs)
    referred-placed r [] = refl
    referred-placed r (s ∷ ss) = chosen (is_lt (cmp s.now r.now)) _ _ _ _ (ap (λ us. s.now ∷ us) (referred-placed r ss)) refl

    pub referred-ascending : (rs : List (Bor T)) → referred (ascending there rs) ≡ ascending cmp (referred rs)
    referred-ascending [] = refl
    referred-ascending (r ∷ rs) = referred-placed r (ascending there rs) ∙ ap (placed cmp r.now) (referred-ascending rs)

    pub sorted_there : (rs : List (Bor T)) (xs : List T) → referred rs ≡ xs → IsSorted cmp xs → IsSorted there rs
    sorted_there rs xs is sorted k d low high =
        let read = λ (i : ℕ) (h : i < length rs). sym (get_or-map (λ r. r.now) rs i d d.now h) ∙ ap (λ us. get_or us i d.now) is in
        let within : k + 1 < length xs = omega (arith, high, length-map {A = Bor T} {B = T} rs (λ r. r.now), ap length is) in
        ap is_lt (ap (cmp (get_or rs (k + 1) d).now) (read k (omega (arith, high))) ∙ ap (λ x. cmp x (get_or xs k d.now)) (read (k + 1) high)) ∙ sorted k d.now low within

  module _ (eq : T → T → Bool) where
    abbrev alike : Bor T → Bor T → Bool
    alike r s = eq r.now s.now

    has_equal-referred : (rs : List (Bor T)) (r : Bor T) → has_equal alike rs r ≡ has_equal eq (referred rs) r.now
    has_equal-referred [] r = refl
    has_equal-referred (s ∷ ss) r = ap (λ b. eq s.now r.now || b) (has_equal-referred ss r)

    referred-without_one : (rs : List (Bor T)) (r : Bor T) → referred (without_one alike rs r) ≡ without_one eq (referred rs) r.now
    referred-without_one [] r = refl
    referred-without_one (s ∷ ss) r = chosen (eq s.now r.now) _ _ _ _ refl (ap (λ us. s.now ∷ us) (referred-without_one ss r))

    pub referred-difference : (rs ss : List (Bor T)) → referred (difference alike rs ss) ≡ difference eq (referred rs) (referred ss)
    referred-difference [] ss = refl
    referred-difference (r ∷ rs) ss =
        chosen (has_equal alike ss r) _ _ _ _ (referred-difference rs (without_one alike ss r) ∙ ap (difference eq (referred rs)) (referred-without_one ss r)) (ap (λ us. r.now ∷ us) (referred-difference rs ss))
        ∙ ap (λ c. cond c (difference eq (referred rs) (without_one eq (referred ss) r.now)) (r.now ∷ difference eq (referred rs) (referred ss))) (has_equal-referred ss r)

  -- references print as what they refer to
  debug_items-referred : (text : T → Option (List ℕ)) (lead : List ℕ) (rs : List (Bor T)) → debug_items (λ r. text r.now) lead rs ≡ debug_items text lead (referred rs)
  debug_items-referred text lead [] = refl
  debug_items-referred text lead (r ∷ rs) = ap (λ us. Some lead ++? text r.now ++? us) (debug_items-referred text comma_space rs)

  pub debug_list-referred : (text : T → Option (List ℕ)) (rs : List (Bor T)) → debug_list (λ r. text r.now) rs ≡ debug_list text (referred rs)
  debug_list-referred text rs = ap (λ us. Some (91 ∷ []) ++? us ++? Some (93 ∷ [])) (debug_items-referred text [] rs)

  -- what is shown of references is shown of what they refer to
  pub showing_referred : (text : T → Option (List ℕ)) (rs : List (Bor T)) {xs : List T} {bytes name : List ℕ} {c t : Tree CaseNode} → referred rs ≡ xs → Fits (debug_list (λ (r : Bor T). text r.now) rs) bytes → IsShowing name (Some bytes) c t → IsShowing name (debug_list text xs) c t
  showing_referred text rs {xs = xs} {bytes = bytes} is fits s =
      let entry = debug_list-referred text rs ∙ ap (debug_list text) is in
      record {
        bytes = s.bytes;
        fits = subst (Fits (debug_list text xs)) (sym s.fits) (subst (λ e. Fits e bytes) entry fits);
        is = s.is;
      }

  -- what two lists have beyond each other, by references, tells whether they have the same counts
  pub none_lack_there : {eq : T → T → Bool} → IsEquivalence eq → (cmp : T → T → Ordering) → (members list : List T) (missing extra : List (Bor T)) → referred missing ≡ difference eq members list → referred extra ≡ difference eq (ascending cmp list) members → ((length missing == 0) && (length extra == 0)) ≡ has_same_counts eq members list
  none_lack_there laws cmp members list missing extra is_missing is_extra =
      ap (λ n. (n == 0) && (length extra == 0)) (sym (length-map missing (λ r. r.now))) ∙ ap (λ n. (length (referred missing) == 0) && (n == 0)) (sym (length-map extra (λ r. r.now))) ∙ none_lack laws cmp members list (referred missing) (referred extra) is_missing is_extra

  -- a list that is sorted by reference
  module _ {eq : T → T → Bool} {cmp : T → T → Ordering} (laws : IsEquivalence eq) (total : IsTotalOrder cmp) {list : List T} (given sorted : List (Bor T)) (is : referred given ≡ list) (rises : IsSorted (λ (r s : Bor T). cmp r.now s.now) sorted) (stable : IsStable (λ (r s : Bor T). cmp r.now s.now) given sorted) where
    pub referred_ascends : referred sorted ≡ ascending cmp list
    referred_ascends = ap referred (sorted_stably (there cmp) (total_there cmp total) given sorted rises stable) ∙ referred-ascending cmp given ∙ ap (ascending cmp) is

    module _ {members : List T} (kept : List (Bor T)) (are : referred kept ≡ members) where
      pub missing_is : {ds : List (Bor T)} → ds ≡ difference (λ (r s : Bor T). eq r.now s.now) kept sorted → referred ds ≡ difference eq members list
      missing_is e = ap referred e ∙ referred-difference eq kept sorted ∙ ap (λ us. difference eq us (referred sorted)) are ∙ ap (difference eq members) referred_ascends ∙ difference_by_count laws members (ascending cmp list) list (count_ascending laws cmp list)

      pub extra_is : {ds : List (Bor T)} → ds ≡ difference (λ (r s : Bor T). eq r.now s.now) sorted kept → referred ds ≡ difference eq (ascending cmp list) members
      extra_is e = ap referred e ∙ referred-difference eq sorted kept ∙ ap (difference eq (referred sorted)) are ∙ ap (λ us. difference eq us members) referred_ascends
