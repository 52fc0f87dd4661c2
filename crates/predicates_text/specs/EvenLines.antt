-- A text with even line endings is a text, and no longer than it was.
use lib.Utf8.{scalar}
use Rattle.std.proofs.Common.{◌≡◌, List, [], ◌∷◌, ℕ, ◌≤◌, true, cond, not, ◌&&◌, eqb, length}
use Rattle.std.proofs.Common.{length-append, ap, refl, arith, map, ⊎_elim}
use Rattle.std.specs.List.{filter, zip}
use Rattle.std.specs.Char.{encode_utf8}
use Rattle.std.specs.Str.{chars, IsUtf8, all_scalars, encode_utf8_all}
use Rattle.std.proofs.lemmas.Bool.{and_parts, and_from, cases_Bool}
use Rattle.std.proofs.lemmas.Str.{scalars-chars, encodes-chars, length-encode, len_utf8_bounds}
use Rattle.predicates_text.specs.Views.{lines_even}

-- the rest of a text with even line endings, after the character `last`
abbrev pub even_after : ℕ → List ℕ → List ℕ
even_after last cs = map (λ c. cond (eqb c 13) 10 c)
    (map (λ (pair : ℕ × ℕ). pair.1)
    (filter (λ pair. not (eqb pair.0 13 && eqb pair.1 10)) (zip (last ∷ cs) cs)))

-- each of its characters is one of the text's, or a line feed
even_scalars : (last : ℕ) (cs : List ℕ) → all_scalars cs ≡ true
    → all_scalars (even_after last cs) ≡ true
even_scalars last [] e = refl
even_scalars last (c ∷ cs) e =
    let parts = and_parts (scalar c) (all_scalars cs) e in
    ⊎_elim
    (λ left_out. rw left_out (even_scalars c cs parts.1))
    (λ stays. rw stays
    (and_from (scalar (cond (eqb c 13) 10 c)) (all_scalars (even_after c cs)) (turned c parts.0)
    (even_scalars c cs parts.1)))
    (cases_Bool (eqb last 13 && eqb c 10))
  where
    turned : (c : ℕ) → scalar c ≡ true → scalar (cond (eqb c 13) 10 c) ≡ true
    turned c e = ⊎_elim (λ is. rw is refl) (λ other. rw other e) (cases_Bool (eqb c 13))

even_shorter : (last : ℕ) (cs : List ℕ)
    → length (encode_utf8_all (even_after last cs)) ≤ length (encode_utf8_all cs)
even_shorter last [] = omega arith
even_shorter last (c ∷ cs) = ⊎_elim
    (λ left_out. rw left_out
    (omega (arith, even_shorter c cs, length-append (encode_utf8 c) (encode_utf8_all cs))))
    (λ stays. rw stays
    (omega (
      arith,
      even_shorter c cs,
      turned c,
      length-append (encode_utf8 c)
          (encode_utf8_all cs),
      length-append (encode_utf8 (cond (eqb c 13) 10 c))
          (encode_utf8_all (even_after c cs)),
    )))
    (cases_Bool (eqb last 13 && eqb c 10))
  where
    turned : (c : ℕ) → length (encode_utf8 (cond (eqb c 13) 10 c)) ≤ length (encode_utf8 c)
    turned c = ⊎_elim
        (λ is. rw is (omega (arith, length-encode 10, length-encode c, (len_utf8_bounds c).0)))
        (λ other. rw other (omega arith))
        (cases_Bool (eqb c 13))

-- even line endings are the characters of some text, which is no longer
pub record IsNoLonger (t : List ℕ) (cs : List ℕ) : Type 0 where
  pub characters : all_scalars cs ≡ true
  pub no_longer : length (encode_utf8_all cs) ≤ length t

pub lines_even_fits : (t : List ℕ) → IsUtf8 t → IsNoLonger t (lines_even (chars t))
lines_even_fits t u = record {
  characters = even_scalars 0 (chars t) (scalars-chars t u);
  no_longer = omega (arith, even_shorter 0 (chars t), ap length (encodes-chars t u));
}
