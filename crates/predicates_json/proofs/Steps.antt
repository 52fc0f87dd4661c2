-- A pointer over values, a part at a time.
use Rattle.std.proofs.Common.{◌≡◌, ◌≢◌, ℕ, suc, ◌<◌, List, [], ◌∷◌, ◌++◌, length, None, Some, option_and_then, refl, sym, ap, ◌∙◌, arith, append_assoc, append-nil, ne_eqb, rules}
use Rattle.std.specs.Prelude.{cond, bytes_eq, slice_get, String, Vec, string_bytes}
use Rattle.std.specs.BTreeMap.{BTreeMap}
use Rattle.std.specs.Global.{Global}
use Rattle.std.specs.Map.{lookup}
use Rattle.std.specs.BTreeMap.{is_at}
use Rattle.std.specs.Ordering.{nat_cmp}
use Rattle.std.specs.Cmp.Lexicographic.{slice_cmp}
use Rattle.std.proofs.lemmas.Map.Text.{is_eq-slice_cmp}
use Rattle.serde_json.specs.Find.{unescape, index_of}
use Rattle.serde_json.specs.declared.value.Value.{Value, Array, Object, the_lemmas}
use Rattle.serde_json.proofs.Paths.{Lacks}
use Rattle.predicates_json.specs.At.{step, walk, at_pointer}

walk_over : (part xs rest : List ℕ) (v : Value) → Lacks 47 xs → walk part (xs ++ rest) v ≡ walk (part ++ xs) rest v
unfolding walk
walk_over part [] rest v h = rw append-nil
walk_over part (x ∷ xs) rest v h =
    rw (ne_eqb x 47 (h 0 (omega arith))) (walk_over (part ++ x ∷ []) xs rest v (λ i less. h (suc i) (omega arith)) ∙ rw append_assoc)

-- up to the next `/`
pub walk-part : (xs rest : List ℕ) (v : Value) → Lacks 47 xs → walk [] (xs ++ 47 ∷ rest) v ≡ option_and_then (walk [] rest) (step xs v)
unfolding walk
walk-part xs rest v h = walk_over [] xs (47 ∷ rest) v h

pub walk-last : (xs : List ℕ) (v : Value) → Lacks 47 xs → walk [] xs v ≡ step xs v
unfolding walk
walk-last xs v h = ap (λ l. walk [] l v) (sym (append-nil xs)) ∙ walk_over [] xs [] v h

pub at-no_slash : (xs : List ℕ) (v : Value) → 0 < length xs → ((rest : List ℕ) → xs ≢ 47 ∷ rest) → at_pointer xs v ≡ None
at-no_slash [] v some h = absurd (omega arith)
at-no_slash (x ∷ xs) v some h = rw (ne_eqb x 47 (λ e. h xs (ap (λ y. y ∷ xs) e)))

-- the order of names finds what their equality finds
pub lookup-by_order : {X : Type 0} (name : List ℕ) (entries : List (String Global × X)) → lookup (is_at (λ k. slice_cmp nat_cmp name (string_bytes k))) entries ≡ lookup (λ k. bytes_eq name (string_bytes k)) entries
lookup-by_order name [] = refl
lookup-by_order name (e ∷ entries) = rw (is_eq-slice_cmp name (string_bytes e.0)) (ap (cond (bytes_eq name (string_bytes e.0)) (Some e.1)) (lookup-by_order name entries))

pub step-Array : (part : List ℕ) (v : Vec Value Global) → step part (Array v) ≡ option_and_then (slice_get v.items) (index_of part)
step-Array part v = search (rules, the_lemmas)

pub step-Object : (part : List ℕ) (m : BTreeMap (String Global) Value) → step part (Object m) ≡ lookup (λ k. bytes_eq (unescape part) (string_bytes k)) m.entries
step-Object part m = search (rules, the_lemmas)
