-- The tests of `specs/Places` decide whether one text occurs in another.
use Rattle.std.proofs.Common.{◌≡◌, ◌↔◌, List, [], ◌∷◌, ◌++◌, ℕ, suc, Bool, true, false, IsTrue}
use Rattle.std.proofs.Common.{length, drop, subst, sym, ap, refl, ⊎_elim, arith}
use Rattle.std.specs.Prelude.{◌||◌}
use Rattle.std.proofs.lemmas.Bool.{cases_Bool}
use Rattle.std.proofs.lemmas.Bool.Decides.{Decides-eqb, nat_tests}
use Rattle.std.proofs.lemmas.Slice.Eq.{starts_is, ends_is, bytes_eq-Decides}
use Rattle.caseless.specs.Caseless.{default_case_fold, IsDefaultMatch}
use Rattle.predicates_text.specs.Places.{IsFrontOf, IsBackOf, IsPartOf, is_empty, is_front, is_back}
use Rattle.predicates_text.specs.Places.{is_part, is_eq_ignore_case}

pub empty_decides : (t : List ℕ) → IsTrue (is_empty t) ↔ (t ≡ [])
empty_decides [] = ((λ _. refl), λ _. refl)
empty_decides
    (c ∷ t) = (
      (λ e. absurd (grind (arith, nat_tests, e))),
      λ e. absurd
          (omega (arith, ap length e)),
    )

pub front_decides : (s t : List ℕ) → IsTrue (is_front s t) ↔ IsFrontOf s t
front_decides s t = let is = starts_is Decides-eqb t s (is_front s t) refl in
    ((λ e. (drop (length s) t, is.0 e)), λ f. is.1 f.0 f.1)

pub back_decides : (s t : List ℕ) → IsTrue (is_back s t) ↔ IsBackOf s t
back_decides s t = let is = ends_is Decides-eqb t s (is_back s t) refl in
    ((λ e. (_, is.0 e)), λ f. is.1 f.0 f.1)

-- what stands at the front, or past the first character
part_in : (s t : List ℕ) → IsTrue (is_part s t) → IsPartOf s t
unfolding is_part
part_in s [] e = let f = (front_decides s []).0 e in record
    { place = 0; stands = ([], f.0, f.1, refl) }
part_in s (c ∷ t) e = ⊎_elim
    (λ is. let f = (front_decides s (c ∷ t)).0 is in record
    { place = 0; stands = ([], f.0, f.1, refl) })
    (λ other.
    let later : IsPartOf s t = part_in s t (subst (λ b. IsTrue (b || is_part s t)) other e) in
    record {
      place = suc later.place;
      stands = (
        c ∷ later.stands.0,
        later.stands.1,
        ap (λ l. c ∷ l) later.stands.2,
        ap suc
            later.stands.3,
      );
    })
    (cases_Bool (is_front s (c ∷ t)))

part_from : (s t front rest : List ℕ) → t ≡ front ++ (s ++ rest) → IsTrue (is_part s t)
unfolding is_part
part_from s [] [] rest e = (front_decides s []).1 (rest, e)
part_from s [] (x ∷ front) rest e = absurd (omega (arith, ap length e))
part_from s (c ∷ t) [] rest e = rw ((front_decides s (c ∷ t)).1 (rest, e)) refl
part_from s (c ∷ t) (x ∷ front) rest e = ⊎_elim
    (λ is. rw is refl)
    (λ other. rw other (part_from s t front rest (ap (drop 1) e)))
    (cases_Bool (is_front s (c ∷ t)))

pub part_decides : (s t : List ℕ) → IsTrue (is_part s t) ↔ IsPartOf s t
part_decides s t = (part_in s t, λ p. part_from s t p.stands.0 p.stands.1 p.stands.2)

pub eq_ignore_case_decides : (s t : List ℕ) → IsTrue (is_eq_ignore_case s t) ↔ IsDefaultMatch s t
eq_ignore_case_decides s t = bytes_eq-Decides (default_case_fold s) (default_case_fold t)

-- two tests of one fact agree
pub same_test : {P : Type 0} (a b : Bool) → IsTrue a ↔ P → IsTrue b ↔ P → a ≡ b
same_test true b f g = sym (g.1 (f.0 refl))
same_test false true f g = f.1 (g.0 refl)
same_test false false f g = refl
