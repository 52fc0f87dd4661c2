-- The count as a function is the count, and there is one count.
use Rattle.std.proofs.Common.{◌≡◌, List, [], ◌∷◌, ◌++◌, ℕ, zero, suc, ◌-◌, ◌≤◌, false, eqb, length}
use Rattle.std.proofs.Common.{drop, sym, ◌∙◌, ap, refl, subst, ⊎_elim, arith, length-append}
use Rattle.std.specs.List.{starts_with}
use Rattle.std.proofs.lemmas.Bool.{cases_Bool, false≢true}
use Rattle.std.proofs.lemmas.Bool.Decides.{Decides-eqb}
use Rattle.std.proofs.lemmas.Slice.Eq.{starts_is}
use Rattle.predicates_text.specs.Places.{StandsAt}
use Rattle.predicates_text.specs.Count.{IsCountOf, count_of, count_past}
use Rattle.predicates_text.specs.Counting.{count_none, count_more, count_later, count_empty}

-- of two counts of one text in another, neither is larger
pub count_unique : (s t : List ℕ) (m n : ℕ) → IsCountOf s t m → IsCountOf s t n → m ≡ n
count_unique s t m n h k =
    omega (
      arith,
      h.greatest k.reached.0 k.reached.1,
      k.greatest h.reached.0 h.reached.1,
      h.reached.2,
      k.reached.2,
    )

count_of_empty : (t : List ℕ) → count_past [] 0 t ≡ suc (length t)
unfolding count_past
count_of_empty [] = refl
count_of_empty (c ∷ t) = ap suc (count_of_empty t)

at_front : (s t front rest : List ℕ) (c : ℕ) → length front ≡ 0 → c ∷ t ≡ front ++ (s ++ rest)
    → c ∷ t ≡ s ++ rest
at_front s t [] rest c none e = e
at_front s t (x ∷ front) rest c none e = absurd (omega (arith, none))

-- a text that does not begin with s has each place of s past its first character
past_first : (s t : List ℕ) (c : ℕ) → starts_with eqb (c ∷ t) s ≡ false → (k : ℕ)
    → StandsAt s (c ∷ t) k → 1 ≤ k
past_first s t c differs zero at =
    absurd (false≢true
    (sym differs ∙ (starts_is Decides-eqb (c ∷ t) s (starts_with eqb (c ∷ t) s) refl).1 at.1
    (at_front s t at.0 at.1 c at.3 at.2)))
past_first s t c differs (suc k) at = omega arith

nowhere_in_nothing : (s : List ℕ) → 1 ≤ length s → (i : ℕ) → ¬ (StandsAt s [] i)
nowhere_in_nothing s some i at = omega
    (arith, ap length at.2, length-append at.0 (s ++ at.1), length-append s at.1, some)

count_past_counts : (s t : List ℕ) (passed : ℕ) → 1 ≤ length s
    → IsCountOf s (drop passed t) (count_past s passed t)
unfolding count_past
count_past_counts s [] zero some = ⊎_elim
    (λ is. absurd
    (nowhere_in_nothing s some 0 (
      [],
      drop (length s) [],
      (starts_is Decides-eqb [] s (starts_with eqb [] s) refl).0 is,
      refl,
    )))
    (λ differs. rw differs (count_none s [] (nowhere_in_nothing s some)))
    (cases_Bool (starts_with eqb [] s))
count_past_counts s [] (suc passed) some = count_none s [] (nowhere_in_nothing s some)
count_past_counts s (c ∷ t) (suc passed) some = count_past_counts s t passed some
count_past_counts s (c ∷ t) zero some = ⊎_elim
    (λ is.
    let long : suc (length s - 1) ≡ length s = omega (arith, some) in
    let rest : drop (length s - 1) t ≡ drop (length s) (c ∷ t) = ap (λ n. drop n (c ∷ t)) long in
    rw is (count_more s (c ∷ t) [] (drop (length s) (c ∷ t)) (count_past s (length s - 1) t) some
    ((starts_is Decides-eqb (c ∷ t) s (starts_with eqb (c ∷ t) s) refl).0 is) (λ k at. omega arith)
    (subst (λ l. IsCountOf s l (count_past s (length s - 1) t)) rest
    (count_past_counts s t (length s - 1) some))))
    (λ differs. rw differs
    (count_later s t c (count_past s 0 t) some (past_first s t c differs)
    (count_past_counts s t 0 some)))
    (cases_Bool (starts_with eqb (c ∷ t) s))

pub count_of_counts : (s t : List ℕ) → IsCountOf s t (count_of s t)
count_of_counts [] t = subst (λ n. IsCountOf [] t n) (sym (count_of_empty t)) (count_empty t)
count_of_counts (c ∷ s) t = count_past_counts (c ∷ s) t 0 (omega arith)

pub count_of_is : (s t : List ℕ) (n : ℕ) → IsCountOf s t n → n ≡ count_of s t
count_of_is s t n h = count_unique s t n (count_of s t) h (count_of_counts s t)
