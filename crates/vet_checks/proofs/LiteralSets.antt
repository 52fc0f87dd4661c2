-- What one literal more makes of a set, and one text or literal more of a list.
use Rattle.std.proofs.Common.{◌≡◌, ℕ, Bool, true, false, List, [], ◌∷◌, ◌++◌, map, String, Global, refl, sym, ap, ◌∙◌}
use Rattle.std.specs.Prelude.{◌||◌, cond, bytes_eq}
use Rattle.std.specs.declared.cmp.Ordering.{Ordering}
use Rattle.std.specs.declared.cmp.Ordering.TheVariants.{Less, Equal, Greater}
use Rattle.std.specs.Ordering.{is_eq, nat_cmp, ordering_reverse}
use Rattle.std.specs.BTreeMap.{is_at}
use Rattle.std.specs.BTreeSet.{BTreeSet, contains, contains_text}
use Rattle.std.specs.Cmp.Lexicographic.{slice_cmp}
use Rattle.std.specs.List.{list_any}
use Rattle.std.proofs.lemmas.Cmp.{nat_list_cmp_total}
use Rattle.std.proofs.lemmas.List.{map-append}
use Rattle.std.proofs.lemmas.List.Folds.{list_any-append}
use Rattle.std.proofs.lemmas.Map.Text.{is_eq-slice_cmp}
use Rattle.serde_json.specs.Data.{Data, unsigned, negative, float, null, boolean, number, string, array, object}
use Rattle.vet_checks.specs.Numbers.{exact_cmp, exact_cmp_total, num_of_exact}
use Rattle.vet_checks.specs.Questions.{is_in_set, is_equal, order}
use Rattle.vet_checks.specs.declared.literal_set.LiteralSet.{LiteralSet}
use Rattle.vet_checks.specs.declared.number.Exact.{Exact}
use Rattle.vet_checks.specs.declared.number.Exact.TheVariants.{Natural, Negative, Float}

or_true : (a : Bool) → (a || true) ≡ true
or_true true = refl
or_true false = refl

or_false : (a : Bool) → a ≡ (a || false)
or_false true = refl
or_false false = refl

or_new : (a b c : Bool) → a ≡ c → cond a true b ≡ (b || c)
or_new true b c e = sym (or_true b) ∙ ap (λ z. b || z) e
or_new false b c e = or_false b ∙ ap (λ z. b || z) e

reversed : (o p : Ordering) → o ≡ ordering_reverse p → is_eq o ≡ is_eq p
reversed o Less e = ap is_eq e
reversed o Equal e = ap is_eq e
reversed o Greater e = ap is_eq e

-- ---- sets

pub text_more : (before after : BTreeSet (String Global)) (t s : List ℕ) → contains_text after s ≡ cond (bytes_eq t s) true (contains_text before s) → contains_text after s ≡ (contains_text before s || bytes_eq s t)
text_more before after t s h = h ∙ or_new (bytes_eq t s) (contains_text before s) (bytes_eq s t)
    (sym (is_eq-slice_cmp t s) ∙ reversed (slice_cmp nat_cmp t s) (slice_cmp nat_cmp s t) (nat_list_cmp_total.antisymm t s) ∙ is_eq-slice_cmp s t)

pub nothing_in_set : (set : LiteralSet) → set.texts.keys ≡ [] → set.numbers.keys ≡ [] → set.has_null ≡ false → set.has_true ≡ false → set.has_false ≡ false → (d : Data) → is_in_set set d ≡ false
nothing_in_set set texts numbers nul truths lies null = nul
nothing_in_set set texts numbers nul truths lies (boolean true) = truths
nothing_in_set set texts numbers nul truths lies (boolean false) = lies
nothing_in_set set texts numbers nul truths lies (number n) = rw numbers refl
nothing_in_set set texts numbers nul truths lies (string s) = rw texts refl
nothing_in_set set texts numbers nul truths lies (array ds) = refl
nothing_in_set set texts numbers nul truths lies (object ms) = refl

module _ (set : LiteralSet) where
  pub text_added : (texts : BTreeSet (String Global)) (t : List ℕ) → ((s : List ℕ) → contains_text texts s ≡ cond (bytes_eq t s) true (contains_text set.texts s)) → (d : Data) → is_in_set (record set { texts = texts }) d ≡ (is_in_set set d || is_equal (order d (string t)))
  text_added texts t h null = or_false _
  text_added texts t h (boolean b) = or_false _
  text_added texts t h (number n) = or_false _
  text_added texts t h (string s) = text_more set.texts texts t s (h s) ∙ ap (λ b. contains_text set.texts s || b) (sym (is_eq-slice_cmp s t))
  text_added texts t h (array ds) = refl
  text_added texts t h (object ms) = refl

  module _ (numbers : BTreeSet Exact) (m : Exact) (h : (q : Exact) → contains exact_cmp numbers q ≡ cond (is_at (exact_cmp m) q) true (contains exact_cmp set.numbers q)) where
    equal_there : (q : Exact) → contains exact_cmp numbers q ≡ (contains exact_cmp set.numbers q || is_eq (exact_cmp q m))
    equal_there q = h q ∙ or_new (is_at (exact_cmp m) q) (contains exact_cmp set.numbers q) (is_eq (exact_cmp q m)) (reversed (exact_cmp m q) (exact_cmp q m) (exact_cmp_total.antisymm m q))

    pub number_added : (d : Data) → is_in_set (record set { numbers = numbers }) d ≡ (is_in_set set d || is_equal (order d (number (num_of_exact m))))
    number_added null = or_false _
    number_added (boolean b) = or_false _
    number_added (number (unsigned n)) = equal_there (Natural n)
    number_added (number (negative z)) = equal_there (Negative z)
    number_added (number (float x)) = equal_there (Float x)
    number_added (string s) = or_false _
    number_added (array ds) = refl
    number_added (object ms) = refl

-- ---- lists

pub any_more : {X Y : Type 0} (f : X → Y) (p : Y → Bool) (xs : List X) (x : X) → list_any p (map f (xs ++ x ∷ [])) ≡ (list_any p (map f xs) || p (f x))
any_more f p xs x = ap (list_any p) (map-append f xs (x ∷ [])) ∙ list_any-append p (map f xs) (f x ∷ []) ∙ ap (λ b. list_any p (map f xs) || b) (sym (or_false (p (f x))))
