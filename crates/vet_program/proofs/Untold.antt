-- Words that are not UTF-8.
use Rattle.std.proofs.Common.{◌≡◌, ◌≢◌, ℕ, List, [], ◌∷◌, Option, Some, None, false, is_some, refl, sym, ap, ◌∙◌, true≢false, arith, if◌then◌else◌}
use Rattle.std.specs.Prelude.{option_map, MatchOption, ◌==◌}
use Rattle.std.proofs.lemmas.Bool.Decides.{nat_tests}
use Rattle.std.specs.Str.{IsUtf8, is_utf8}
use Rattle.std.proofs.lemmas.Str.{IsUtf8-from_is_utf8, is_utf8-from_IsUtf8}
use denote.Ref.{Bor}
use Rattle.vet_program.specs.Words.{untold_of, IsText}

pub utf8_text : (word text : List ℕ) → text ≡ word → IsUtf8 word → IsText word text
utf8_text word text e u = record {
  same = λ yes. e;
  marked = λ no. absurd (true≢false (sym (is_utf8-from_IsUtf8 word u) ∙ no));
}

pub other_text : (word text rest : List ℕ) → text ≡ 0 ∷ rest → ¬ (IsUtf8 word) → IsText word text
other_text word text rest e h = record {
  same = λ yes. absurd (h (IsUtf8-from_is_utf8 word yes));
  marked = λ no. ap (λ t. is_some (untold_of t)) e;
}

other_code : (code : ℕ) → code ≢ 0 → (code == 0) ≡ false
other_code code h = grind (arith, nat_tests, h)

pub untold_is : (word : List ℕ) (r : Option (Bor (List ℕ))) → MatchOption r ((rest : List ℕ) → word ≢ 0 ∷ rest) (λ x. word ≡ 0 ∷ x.now)
    → option_map (λ s. s.now) r ≡ untold_of word
untold_is [] None h = refl
untold_is (code ∷ word) None h = sym (ap (λ b. if b then Some word else None) (other_code code (λ e. h word (ap (λ z. z ∷ word) e))))
untold_is word (Some x) h = sym (ap untold_of h)
