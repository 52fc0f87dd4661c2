-- A text whose first and last bytes are visible ASCII is its own trimmed text.
use Rattle.std.proofs.Common.{◌≡◌, List, [], ◌∷◌, ◌++◌, ℕ, ◌+◌, ◌-◌, ◌<◌, ◌≤◌, Bool, true, false, cond, ◌&&◌, eqb, length, get_or}
use Rattle.std.proofs.Common.{sym, ◌∙◌, ap, refl, arith, length-append, append-nil}
use Rattle.std.specs.Int.{IsInRange}
use Rattle.std.specs.Char.{is_whitespace, encode_utf8}
use Rattle.std.specs.Str.{chars, IsUtf8, encode_utf8_all, skip_leading_whitespace, drop_trailing_whitespace}
use Rattle.std.proofs.lemmas.Bool.Decides.{nat_tests}
use Rattle.std.proofs.lemmas.List.{get_or-append-add}
use Rattle.std.proofs.lemmas.Str.{encodes-chars, encodes-append, char_from_byte, inside_one, length-encode, len_utf8_bounds}
use Rattle.predicates_text.specs.Views.{trimmed}
use Rattle.predicates_text.proofs.Trimming.{trimmed_is}

seen : (c : ℕ) → IsInRange 33 126 c → is_whitespace c ≡ false
seen c h = grind (arith, nat_tests)

filled : (d : ℕ) (front : List ℕ) → eqb (length (front ++ (d ∷ []))) 0 ≡ false
filled d front = let long : length (front ++ (d ∷ [])) ≡ length front + 1 = length-append front (d ∷ []) in grind (arith, nat_tests, long)

stays : (b : Bool) (l : List ℕ) → cond (b && false) [] l ≡ l
stays true l = refl
stays false l = refl

-- the last character stays, and so does all before it
back_stays : (d : ℕ) (front : List ℕ) → is_whitespace d ≡ false → drop_trailing_whitespace (front ++ (d ∷ [])) ≡ front ++ (d ∷ [])
back_stays d [] e = rw e refl
back_stays d (c ∷ cs) e = rw (back_stays d cs e) (rw (filled d cs) (stays (is_whitespace c) (c ∷ (cs ++ (d ∷ [])))))

front_stays : (cs : List ℕ) (c : ℕ) → is_whitespace c ≡ false → skip_leading_whitespace (c ∷ cs) ≡ c ∷ cs
front_stays cs c e = rw e refl

-- the first and the last of some characters
last_of : (c : ℕ) (cs : List ℕ) → (front : List ℕ) × (d : ℕ) × (c ∷ cs ≡ front ++ (d ∷ []))
last_of c [] = ([], c, refl)
last_of c (x ∷ cs) = let r = last_of x cs in (c ∷ r.0, r.1, ap (λ l. c ∷ l) r.2)

-- the last byte of a text, where it is ASCII, is its last character
last_byte : (t front : List ℕ) (d : ℕ) → t ≡ encode_utf8_all front ++ encode_utf8 d → get_or t (length t - 1) 0 < 128 → d ≡ get_or t (length t - 1) 0
last_byte t front d e low =
    let before : List ℕ = encode_utf8_all front in
    let j : ℕ = length (encode_utf8 d) - 1 in
    let some : 0 < length (encode_utf8 d) = omega (arith, length-encode d, (len_utf8_bounds d).0) in
    let at : length t - 1 ≡ length before + j = omega (arith, ap length e, length-append before (encode_utf8 d)) in
    let same : get_or t (length t - 1) 0 ≡ get_or (encode_utf8 d) j 0 = (λ i. get_or (e i) (at i) 0) ∙ get_or-append-add before (encode_utf8 d) j 0 in
    inside_one d [] (encode_utf8 d) j (sym (append-nil (encode_utf8 d))) (omega (arith, some)) (omega (arith, same, low)) ∙ sym same

bare : (t cs : List ℕ) → t ≡ encode_utf8_all cs → 1 ≤ length t → IsInRange 33 126 (get_or t 0 0) → IsInRange 33 126 (get_or t (length t - 1) 0) → cs ≡ trimmed cs
bare t [] e some first last = absurd (omega (arith, ap length e, some))
bare t (c ∷ cs) e some first last =
    let end = last_of c cs in
    let opens : c ≡ get_or t 0 0 = char_from_byte t (encode_utf8_all cs) c e (omega (arith, first)) (omega (arith, some)) in
    let parts : t ≡ encode_utf8_all end.0 ++ encode_utf8 end.1 =
    e ∙ ap encode_utf8_all end.2 ∙ encodes-append end.0 (end.1 ∷ []) ∙ ap (λ l. encode_utf8_all end.0 ++ l) (append-nil (encode_utf8 end.1)) in
    let shuts : end.1 ≡ get_or t (length t - 1) 0 = last_byte t end.0 end.1 parts (omega (arith, last)) in
    let front : skip_leading_whitespace (c ∷ cs) ≡ c ∷ cs = front_stays cs c (ap is_whitespace opens ∙ seen (get_or t 0 0) first) in
    let back : drop_trailing_whitespace (end.0 ++ (end.1 ∷ [])) ≡ end.0 ++ (end.1 ∷ []) = back_stays end.1 end.0 (ap is_whitespace shuts ∙ seen (get_or t (length t - 1) 0) last) in
    end.2 ∙ sym back ∙ ap drop_trailing_whitespace (sym end.2) ∙ ap drop_trailing_whitespace (sym front) ∙ trimmed_is (c ∷ cs)

-- a text whose first and last byte are ASCII and seen
pub bare_text : (t bytes : List ℕ) → bytes ≡ t → IsUtf8 t → 1 ≤ length bytes → IsInRange 33 126 (get_or bytes 0 0) → IsInRange 33 126 (get_or bytes (length bytes - 1) 0) → chars t ≡ trimmed (chars t)
bare_text t bytes same u some first last = bare bytes (chars t) (same ∙ sym (encodes-chars t u)) some first last
