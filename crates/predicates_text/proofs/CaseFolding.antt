-- Which texts are their own case folding, and that folding twice is folding once.
use Rattle.std.proofs.Common.{◌≡◌, ◌↔◌, List, [], ◌∷◌, ◌++◌, ℕ, ◌≤◌, Bool, true, false, IsTrue, not, eqb}
use Rattle.std.proofs.Common.{refl, sym, ap, ap₂, ◌∙◌, arith, length, length-append, ⊎_elim, drop, get_or, Result, Ok, Err}
use Rattle.std.specs.Prelude.{IfOk, string_bytes}
use Rattle.std.specs.List.{list_all}
use Rattle.std.specs.Str.{chars, encode_utf8_all}
use Rattle.std.proofs.lemmas.Bool.{and_parts, and_from, cases_Bool}
use Rattle.std.proofs.lemmas.Bool.Decides.{nat_tests}
use Rattle.std.proofs.lemmas.Str.{IsUtf8-string_bytes, chars_from_encodes}
use Rattle.ucd_table.proofs.Computing.{tables}
use Rattle.ucd_table.proofs.RangedFacts.{points_ok, Stepped-at_points}
use Rattle.ucd_case.specs.CaseFolding.{full_folding, full_fold, or_itself}
use Rattle.ucd_case.proofs.CaseFoldingLemmas.{full_folding_stepped}
use Rattle.caseless.specs.Caseless.{default_case_fold}
use Rattle.caseless.proofs.CaselessLemmas.{default_case_fold-nil, default_case_fold-cons, default_case_fold_idem}
use Rattle.predicates_core.specs.Text.{Text}
use Rattle.predicates_text.specs.Views.{fits_text, case_folded}
use Rattle.predicates_core.specs.Formula.{Formula}
use Rattle.predicates_text.specs.ViewFormulas.{IsCaseFoldedOf, IsOfEach}

-- a character that the table leaves out
abbrev pub has_none : ℕ → Bool
has_none c = eqb (length (full_folding c)) 0

abbrev is_none : List ℕ → Bool
is_none folded = eqb (length folded) 0

abbrev begins_otherwise : ℕ → List ℕ → Bool
begins_otherwise c folded = not (eqb (get_or folded 0 0) c)

-- what the table has of a character begins with another one
table_differs : (c : ℕ) → is_none (full_folding c) ≡ false → begins_otherwise c (full_folding c) ≡ true
unfolding tables points_ok full_folding_stepped
table_differs c = Stepped-at_points full_folding full_folding_stepped is_none begins_otherwise refl c

itself : (c : ℕ) (folded : List ℕ) → is_none folded ≡ true → or_itself c folded ≡ c ∷ []
itself c [] e = refl
itself c (x ∷ xs) e = absurd (grind (arith, nat_tests, e))

pub own_from_none : (cs : List ℕ) → list_all has_none cs ≡ true → default_case_fold cs ≡ cs
own_from_none [] e = default_case_fold-nil
own_from_none (c ∷ cs) e =
    let parts = and_parts (has_none c) (list_all has_none cs) e in
    default_case_fold-cons c cs ∙ ap₂ ◌++◌ (itself c (full_folding c) parts.0) (own_from_none cs parts.1)

some : (c : ℕ) (folded : List ℕ) → 1 ≤ length (or_itself c folded)
some c [] = omega arith
some c (x ∷ xs) = omega arith

no_shorter : (cs : List ℕ) → length cs ≤ length (default_case_fold cs)
no_shorter [] = omega arith
no_shorter (c ∷ cs) =
    let long = ap length (default_case_fold-cons c cs) ∙ length-append (full_fold c) (default_case_fold cs) in
    omega (arith, long, some c (full_folding c), no_shorter cs)

-- a character and a rest of which the folding is that
stays_alone : (c : ℕ) (folded rest cs : List ℕ) → or_itself c folded ++ rest ≡ c ∷ cs → length cs ≤ length rest
    → (is_none folded ≡ false → begins_otherwise c folded ≡ true) → (is_none folded ≡ true) × (rest ≡ cs)
stays_alone c [] rest cs e within differs = (refl, ap (drop 1) e)
stays_alone c (x ∷ xs) rest cs e within differs =
    let first : x ≡ c = ap (λ l. get_or l 0 0) e in
    let present : is_none (x ∷ xs) ≡ false = grind (arith, nat_tests) in
    let other : begins_otherwise c (x ∷ xs) ≡ true = differs present in
    absurd (grind (arith, nat_tests, first, other))

pub none_from_own : (cs : List ℕ) → default_case_fold cs ≡ cs → list_all has_none cs ≡ true
none_from_own [] e = refl
none_from_own (c ∷ cs) e =
    let parts = stays_alone c (full_folding c) (default_case_fold cs) cs (sym (default_case_fold-cons c cs) ∙ e) (no_shorter cs) (table_differs c) in
    and_from (has_none c) (list_all has_none cs) parts.0 (none_from_own cs parts.1)

pub own_decides : (cs : List ℕ) (r : Bool) → r ≡ list_all has_none cs → IsTrue r ↔ (default_case_fold cs ≡ cs)
own_decides cs r e = ((λ is. own_from_none cs (sym e ∙ is)), λ own. e ∙ none_from_own cs own)

-- folded twice is once
pub case_folded_twice : (cs : List ℕ) → case_folded (case_folded cs) ≡ case_folded cs
case_folded_twice cs = ⊎_elim
    (λ fits. rw fits (rw (default_case_fold_idem cs) (rw fits refl)))
    (λ long. rw long (rw long refl))
    (cases_Bool (fits_text (default_case_fold cs)))

-- so of a view of a view
pub folded_each : (has : Text → Formula → Type 0) (v : Text) (f : Formula)
    → IsOfEach (λ t. IsOfEach has (IsCaseFoldedOf t)) (IsCaseFoldedOf v) f ↔ IsOfEach has (IsCaseFoldedOf v) f
folded_each has v f = (
  λ h. record { each = λ t is. (h.each t is).each t (is ∙ sym (case_folded_twice (chars (string_bytes v))) ∙ ap case_folded (sym is)) },
  λ h. record { each = λ t is. record { each = λ u again. h.each u (again ∙ ap case_folded is ∙ case_folded_twice (chars (string_bytes v))) } },
)

-- a text made of the folding
pub view_of_fold : {E : Type 0} (r : Result Text E) (t : List ℕ) → IfOk r (λ s. string_bytes s ≡ encode_utf8_all (default_case_fold (chars t))) → IfOk r (λ s. chars (string_bytes s) ≡ default_case_fold (chars t))
view_of_fold (Ok s) t e = sym (chars_from_encodes (default_case_fold (chars t)) (string_bytes s) (IsUtf8-string_bytes s) (sym e))
view_of_fold (Err e) t made = tt

-- folded again, such a text stays
pub fold_stays : {E : Type 0} (r : Result Text E) (t : List ℕ) → IfOk r (λ s. chars (string_bytes s) ≡ default_case_fold (chars t)) → IfOk r (λ s. default_case_fold (chars (string_bytes s)) ≡ chars (string_bytes s))
fold_stays (Ok s) t view = ap default_case_fold view ∙ default_case_fold_idem (chars t) ∙ sym view
fold_stays (Err e) t view = tt
