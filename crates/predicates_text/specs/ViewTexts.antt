-- Each view of an item is the content of some text.
use Rattle.std.proofs.Common.{◌≡◌, List, [], ◌∷◌, ℕ, zero, suc, ◌+◌, ◌^◌, ◌≤◌, ◌<◌, true}
use Rattle.std.proofs.Common.{length, take, drop}
use Rattle.std.proofs.Common.{refl, sym, ap, ◌∙◌, arith, string_bytes, length-append}
use lib.Utf8.{scalar}
use Rattle.std.specs.Str.{chars, IsUtf8, all_scalars, encode_utf8_all}
use Rattle.std.specs.Prelude.{Vec}
use Rattle.std.specs.declared.alloc.Global.{Global}
use Rattle.predicates_core.specs.Text.{Text}
use Rattle.std.proofs.Common.{◌⊎◌, inl, inr, ⊎_elim}
use Rattle.std.specs.Str.{is_utf8}
use Rattle.std.proofs.lemmas.Str.{IsUtf8-from_is_utf8, is_utf8-from_IsUtf8}
use Rattle.std.proofs.lemmas.Bool.{and_parts, and_from, cases_Bool, false≢true, ltb-true}
use Rattle.std.proofs.lemmas.List.{take-append-drop}
use Rattle.std.proofs.lemmas.Str.{chars-encodes, encodes-chars, scalars-chars, encodes-append}
use Rattle.std.proofs.lemmas.Str.{IsUtf8-string_bytes}
use Rattle.caseless.specs.Caseless.{default_case_fold}
use Rattle.predicates_text.specs.Views.{lines_even, fits_text}
use Rattle.predicates_text.specs.EvenLines.{IsNoLonger, lines_even_fits}
use Rattle.predicates_text.specs.FoldedCase.{folded_scalars}
use Rattle.predicates_text.specs.ViewFormulas.{IsViewOf, IsTrimmedOf, HasEvenLinesOf}
use Rattle.predicates_text.specs.ViewFormulas.{IsCaseFoldedOf, view_bytes}
use Rattle.predicates_text.specs.ViewFormulaLaws.{TextOrNot}

-- a text of given bytes, where another has room for it
pub string_with : (v : Text) (xs : List ℕ) → IsUtf8 xs → length xs ≤ length (string_bytes v)
    → (t : Text) × (string_bytes t ≡ xs)
string_with v xs u l = (
  record v {
    bytes = record v.bytes
        { items = xs; len = length xs; ok = (refl, omega (arith, v.bytes.ok.0, v.bytes.ok.1, l)) };
    ok = ∣ u ∣₁;
  },
  refl,
)

-- a text of given bytes, if they are few enough for one
pub string_of : (v : Text) (xs : List ℕ) → IsUtf8 xs → length xs < 2 ^ 63
    → (t : Text) × (string_bytes t ≡ xs)
string_of v xs u small = (
  record v {
    bytes = record v.bytes {
      items = xs;
      len = length xs;
      cap = length xs;
      ok = (refl, omega arith);
      small = small;
    };
    ok = ∣ u ∣₁;
  },
  refl,
)

scalars_take : (n : ℕ) (cs : List ℕ) → all_scalars cs ≡ true → all_scalars (take n cs) ≡ true
scalars_take zero cs e = refl
scalars_take (suc n) [] e = refl
scalars_take (suc n) (c ∷ cs) e = let parts = and_parts (scalar c) (all_scalars cs) e in and_from
    (scalar c) (all_scalars (take n cs)) parts.0 (scalars_take n cs parts.1)

scalars_drop : (n : ℕ) (cs : List ℕ) → all_scalars cs ≡ true → all_scalars (drop n cs) ≡ true
scalars_drop zero cs e = e
scalars_drop (suc n) [] e = refl
scalars_drop (suc n) (c ∷ cs) e = let parts = and_parts (scalar c) (all_scalars cs) e in
    scalars_drop n cs parts.1

cut_shorter : (n : ℕ) (cs : List ℕ)
    → length (encode_utf8_all (take n cs)) + length (encode_utf8_all (drop n cs)) ≡ length
    (encode_utf8_all cs)
cut_shorter n cs =
    sym (length-append (encode_utf8_all (take n cs)) (encode_utf8_all (drop n cs)))
    ∙ ap length
    (sym (encodes-append (take n cs) (drop n cs)) ∙ ap encode_utf8_all (take-append-drop n cs))

part_text : (v : Text) (m n : ℕ) → (t : Text)
    × (chars (string_bytes t) ≡ take m (drop n (chars (string_bytes v))))
part_text v m n =
    let u : IsUtf8 (string_bytes v) = IsUtf8-string_bytes v in
    let cs : List ℕ = chars (string_bytes v) in
    let known : all_scalars (take m (drop n cs)) ≡ true = scalars_take m (drop n cs)
    (scalars_drop n cs (scalars-chars (string_bytes v) u)) in
    let made : (t : Text) × (string_bytes t ≡ encode_utf8_all (take m (drop n cs))) =
    string_with v (encode_utf8_all (take m (drop n cs))) (take m (drop n cs), (known, refl))
    (omega (
      arith,
      cut_shorter m (drop n cs),
      cut_shorter n cs,
      ap length
          (encodes-chars (string_bytes v) u),
    )) in
    (made.0, ap chars made.1 ∙ chars-encodes (take m (drop n cs)) known)

pub has_trimmed : (v : Text) → (t : Text) × IsTrimmedOf v t
has_trimmed v = part_text v _ _

pub has_even_lines : (v : Text) → (t : Text) × HasEvenLinesOf v t
has_even_lines v =
    let u : IsUtf8 (string_bytes v) = IsUtf8-string_bytes v in
    let fits : IsNoLonger (string_bytes v) (lines_even (chars (string_bytes v))) = lines_even_fits
    (string_bytes v) u in
    let made : (t : Text)
    × (string_bytes t ≡ encode_utf8_all (lines_even (chars (string_bytes v)))) =
    string_with v (encode_utf8_all (lines_even (chars (string_bytes v))))
    (lines_even (chars (string_bytes v)), (fits.characters, refl)) fits.no_longer in
    (made.0, ap chars made.1 ∙ chars-encodes (lines_even (chars (string_bytes v))) fits.characters)

pub has_case_folded : (v : Text) → (t : Text) × IsCaseFoldedOf v t
has_case_folded v =
    let cs : List ℕ = chars (string_bytes v) in
    let folded : List ℕ = default_case_fold cs in
    let known : all_scalars folded ≡ true = folded_scalars cs
    (scalars-chars (string_bytes v) (IsUtf8-string_bytes v)) in
    ⊎_elim
    (λ fits.
    let made : (t : Text) × (string_bytes t ≡ encode_utf8_all folded) =
    string_of v (encode_utf8_all folded) (folded, (known, refl))
    (ltb-true (length (encode_utf8_all folded)) (2 ^ 63) fits) in
    (made.0, ap chars made.1 ∙ chars-encodes folded known ∙ (rw fits refl)))
    (λ long. (v, rw long refl))
    (cases_Bool (fits_text folded))

pub has_decoded : (v : Vec ℕ Global) → IsUtf8 v.items → (t : Text) × (string_bytes t ≡ v.items)
has_decoded v u = (record { bytes = v; ok = ∣ u ∣₁ }, refl)

-- whether the bytes are text
pub text_or_not : (bytes : List ℕ) → IsUtf8 bytes ⊎ ¬ (IsUtf8 bytes)
text_or_not bytes = ⊎_elim
    (λ is. inl (IsUtf8-from_is_utf8 bytes is))
    (λ other. inr (λ u. false≢true (sym other ∙ is_utf8-from_IsUtf8 bytes u)))
    (cases_Bool (is_utf8 bytes))

-- the bytes of a text with the characters
pub bytes_of_chars : (t : Text) (cs : List ℕ) → chars (string_bytes t) ≡ cs
    → string_bytes t ≡ encode_utf8_all cs
bytes_of_chars t cs e = sym (encodes-chars (string_bytes t) (IsUtf8-string_bytes t)) ∙ ap
    encode_utf8_all e

-- bytes are those of a text, or not UTF-8
pub text_or_other : (v : Vec ℕ Global) → TextOrNot v.items
text_or_other v = ⊎_elim (λ u. inl (has_decoded v u)) inr (text_or_not v.items)

-- the bytes of a view
pub view_is : (shows : List ℕ → List ℕ) (v t : Text) → IsViewOf shows v t
    → string_bytes t ≡ view_bytes shows (string_bytes v)
view_is shows v t is = bytes_of_chars t _ is
