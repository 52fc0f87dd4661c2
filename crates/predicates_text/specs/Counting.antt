-- The count of a text in another, by its first place and what follows that.
use Rattle.std.proofs.Common.{◌≡◌, List, [], ◌∷◌, ◌++◌, ℕ, suc, ◌+◌, ◌-◌, ◌≤◌, length, drop, sym}
use Rattle.std.proofs.Common.{◌∙◌, ap, refl, subst, inl, inr, ⊎_elim, arith, length-append}
use Rattle.std.proofs.Common.{length-drop, append_assoc}
use Rattle.std.specs.List.{AllByRecursion}
use Rattle.std.proofs.Math.Seq.{drop-append_seam}
use Rattle.std.proofs.lemmas.List.{drop-append-le}
use Rattle.std.proofs.lemmas.List.Elements.{All-from_recursion, recursion_from_All}
use Rattle.std.proofs.lemmas.List.{length-map}
use Rattle.predicates_text.specs.Places.{StandsAt}
use Rattle.predicates_text.specs.Count.{AreApart, IsChoiceOfPlaces, IsCountOf}
use Rattle.predicates_text.specs.Choices.{Far, IsChoice, far_from_pairs, pairs_from_far}
use Rattle.predicates_text.specs.Choices.{choice_bound, choice_more, choice_moved_up}
use Rattle.predicates_text.specs.Choices.{choice_moved_down, moved}

-- a choice of places, in the words of `Choices`: the gap is the length, or 1 for the empty text
module _ (s t : List ℕ) (gap : ℕ) (wide : (a b : ℕ) → AreApart (length s) a b → Far gap a b)
    (back : (a b : ℕ) → Far gap a b → AreApart (length s) a b) where
  pub choice_from : (places : List ℕ) → IsChoiceOfPlaces s t places
      → IsChoice (StandsAt s t) gap places
  choice_from places h = record {
    each = recursion_from_All (StandsAt s t) places h.each_stands;
    apart = far_from_pairs gap places (λ i j d a b. wide _ _ (h.pairs_apart i j d a b));
  }

  pub choice_to : (places : List ℕ) → IsChoice (StandsAt s t) gap places
      → IsChoiceOfPlaces s t places
  choice_to places h = record {
    each_stands = All-from_recursion (StandsAt s t) places h.each;
    pairs_apart = λ i j d a b. back _ _ (pairs_from_far gap places h.apart i j d a b);
  }

full_gap : (s : List ℕ) → 1 ≤ length s → (a b : ℕ) → AreApart (length s) a b → Far (length s) a b
full_gap s some a b h = h.1

full_gap_back : (s : List ℕ) → 1 ≤ length s → (a b : ℕ) → Far (length s) a b
    → AreApart (length s) a b
full_gap_back s some a b
    h = (
      (λ e. ⊎_elim (λ x. absurd (omega (arith, x, e, some)))
          (λ x. absurd (omega (arith, x, e, some))) h),
      h,
    )

-- a text that stands nowhere
pub count_none : (s t : List ℕ) → ((i : ℕ) → ¬ (StandsAt s t i)) → IsCountOf s t 0
count_none s t none = record {
  reached = (
    [],
    record {
      each_stands = λ k d l. absurd (omega arith);
      pairs_apart = λ i j d a b. absurd (omega arith);
    },
    refl,
  );
  greatest = λ places h. none_chosen places h;
}
  where
    none_chosen : (places : List ℕ) → IsChoiceOfPlaces s t places → length places ≤ 0
    none_chosen [] h = omega arith
    none_chosen (x ∷ xs) h = absurd (none x (h.each_stands 0 0 (omega arith)))

-- what stands past a front of t stands in the rest
place_past : (s t head rest : List ℕ) (k : ℕ) → t ≡ head ++ rest → length head ≤ k → StandsAt s t k
    → StandsAt s rest (k - length head)
place_past s t head rest k e within at =
    let tail : drop (length head) t ≡ rest = ap (drop (length head)) e ∙ drop-append_seam head rest
    in
    let fits : length head ≤ length at.0 = omega (arith, at.3) in
    let split : rest ≡ drop (length head) at.0 ++ (s ++ at.1) = sym tail ∙ ap (drop (length head))
    at.2 ∙ drop-append-le (length head) at.0 (s ++ at.1) fits in
    (drop (length head) at.0, at.1, split, omega (arith, length-drop (length head) at.0, at.3))

place_in : (s t head rest : List ℕ) (k : ℕ) → t ≡ head ++ rest → StandsAt s rest k
    → StandsAt s t (k + length head)
place_in s t head rest k e at = (
  head ++ at.0,
  at.1,
  e ∙ ap (λ l. head ++ l) at.2 ∙ sym (append_assoc head at.0 (s ++ at.1)),
  omega (arith, length-append head at.0, at.3),
)

-- after the first place of s, and past it
pub count_more : (s t front rest : List ℕ) (n : ℕ) → 1 ≤ length s → t ≡ front ++ (s ++ rest)
    → ((k : ℕ) → StandsAt s t k → length front ≤ k)
    → IsCountOf s rest n → IsCountOf s t (suc n)
count_more s t front rest n some e first counted =
    let head : t ≡ (front ++ s) ++ rest = e ∙ sym (append_assoc front s rest) in
    let long : length (front ++ s) ≡ length front + length s = length-append front s in
    let here : StandsAt s t (length front) = (front, rest, e, refl) in
    let P : ℕ → Type 0 = StandsAt s t in
    let Q : ℕ → Type 0 = StandsAt s rest in
    let chosen = counted.reached in
    record {
      reached = (
        length front ∷ moved (length front + length s) chosen.0,
        choice_to s t (length s) (full_gap s some) (full_gap_back s some) _
            (choice_more P Q (length s) (length front) chosen.0 here
            (λ k at. subst (λ l. StandsAt s t (k + l)) long
            (place_in s t (front ++ s) rest k head at))
            (choice_from s rest (length s) (full_gap s some) (full_gap_back s some) chosen.0
            chosen.1)),
        ap suc (length-map chosen.0 _ ∙ chosen.2),
      );
      greatest = λ places h. choice_bound P Q (length s) (length front) n first
          (λ k within at. subst (λ l. StandsAt s rest (k - l)) long
          (place_past s t (front ++ s) rest k head (omega (arith, long, within)) at))
          (λ ys c. counted.greatest ys
          (choice_to s rest (length s) (full_gap s some) (full_gap_back s some) ys c))
          places (choice_from s t (length s) (full_gap s some) (full_gap_back s some) places h);
    }

-- the empty text
unit_gap : (a b : ℕ) → AreApart 0 a b → Far 1 a b
unit_gap a b h = ⊎_elim (λ x. inl (omega (arith, x, h.0))) (λ x. inr (omega (arith, x, h.0))) h.1

unit_gap_back : (a b : ℕ) → Far 1 a b → AreApart 0 a b
unit_gap_back a b
    h = (
      (λ e. ⊎_elim (λ x. absurd (omega (arith, x, e))) (λ x. absurd (omega (arith, x, e))) h),
      ⊎_elim (λ x. inl (omega (arith, x))) (λ x. inr (omega (arith, x))) h,
    )

empty_within : (t : List ℕ) (k : ℕ) → StandsAt [] t k → k ≤ length t
empty_within t k at = omega (arith, ap length at.2, length-append at.0 at.1, at.3)

pub count_empty : (t : List ℕ) → IsCountOf [] t (suc (length t))
count_empty [] = record {
  reached = (
    0 ∷ [],
    choice_to [] [] 1 unit_gap unit_gap_back (0 ∷ [])
        (record { each = (([], [], refl, refl), tt); apart = (tt, tt) }),
    refl,
  );
  greatest = λ places h. choice_bound (StandsAt [] []) (λ _. ⊥) 1 0 0 (λ k at. omega arith)
      (λ k within at. omega (arith, empty_within [] k at))
      (λ ys c. nothing ys c.each) places (choice_from [] [] 1 unit_gap unit_gap_back places h);
}
  where
    nothing : (ys : List ℕ) → AllByRecursion (λ _. ⊥) ys → length ys ≤ 0
    nothing [] h = omega arith
    nothing (y ∷ ys) h = absurd h.0
count_empty (c ∷ cs) =
    let counted : IsCountOf [] cs (suc (length cs)) = count_empty cs in
    let chosen = counted.reached in
    record {
      reached = (
        0 ∷ moved 1 chosen.0,
        choice_to [] (c ∷ cs) 1 unit_gap unit_gap_back _
            (choice_more (StandsAt [] (c ∷ cs)) (StandsAt [] cs) 1 0 chosen.0
            ([], c ∷ cs, refl, refl)
            (λ k at. place_in [] (c ∷ cs) (c ∷ []) cs k refl at)
            (choice_from [] cs 1 unit_gap unit_gap_back chosen.0 chosen.1)),
        ap suc (length-map chosen.0 _ ∙ chosen.2),
      );
      greatest = λ places h. choice_bound (StandsAt [] (c ∷ cs)) (StandsAt [] cs) 1 0
          (suc (length cs)) (λ k at. omega arith)
          (λ k within at. place_past [] (c ∷ cs) (c ∷ []) cs k refl within at)
          (λ ys h'. counted.greatest ys (choice_to [] cs 1 unit_gap unit_gap_back ys h'))
          places (choice_from [] (c ∷ cs) 1 unit_gap unit_gap_back places h);
    }

-- where s is no front of a text, what follows the first character has the same count
pub count_later : (s t : List ℕ) (c n : ℕ) → 1 ≤ length s → ((k : ℕ) → StandsAt s (c ∷ t) k → 1 ≤ k)
    → IsCountOf s t n → IsCountOf s (c ∷ t) n
count_later s t c n some from counted =
    let P : ℕ → Type 0 = StandsAt s (c ∷ t) in
    let Q : ℕ → Type 0 = StandsAt s t in
    let chosen = counted.reached in
    record {
      reached = (
        moved 1 chosen.0,
        choice_to s (c ∷ t) (length s) (full_gap s some) (full_gap_back s some) _
            (choice_moved_up P Q (length s) 1 chosen.0
            (λ k at. place_in s (c ∷ t) (c ∷ []) t k refl at)
            (choice_from s t (length s) (full_gap s some) (full_gap_back s some) chosen.0
            chosen.1)),
        length-map chosen.0 _ ∙ chosen.2,
      );
      greatest = λ places h. choice_moved_down P Q (length s) 1 n from
          (λ k within at. place_past s (c ∷ t) (c ∷ []) t k refl within at)
          (λ ys h'. counted.greatest ys
          (choice_to s t (length s) (full_gap s some) (full_gap_back s some) ys h'))
          places (choice_from s (c ∷ t) (length s) (full_gap s some) (full_gap_back s some) places
          h);
    }
