-- What a part of a pointer is with its escapes undone, byte by byte.
use Rattle.std.proofs.Common.{◌≡◌, ◌≢◌, ℕ, List, [], ◌∷◌, length, arith, refl, ne_eqb}
use Rattle.serde_json.specs.Find.{unescape}

pub unescape-other : (x : ℕ) (rest : List ℕ) → x ≢ 126 → unescape (x ∷ rest) ≡ x ∷ unescape rest
unfolding unescape
unescape-other x [] h = refl
unescape-other x (y ∷ rest) h = rw (ne_eqb x 126 h) refl

pub unescape-last : (x : ℕ) (rest : List ℕ) → length rest ≡ 0 → unescape (x ∷ rest) ≡ x ∷ unescape rest
unfolding unescape
unescape-last x [] none = refl
unescape-last x (y ∷ rest) none = absurd (omega (arith, none))

pub unescape-slash : (rest : List ℕ) → unescape (126 ∷ 49 ∷ rest) ≡ 47 ∷ unescape rest
unfolding unescape
unescape-slash rest = refl

pub unescape-tilde : (rest : List ℕ) → unescape (126 ∷ 48 ∷ rest) ≡ 126 ∷ unescape rest
unfolding unescape
unescape-tilde rest = refl

pub unescape-lone : (y : ℕ) (rest : List ℕ) → y ≢ 49 → y ≢ 48 → unescape (126 ∷ y ∷ rest) ≡ 126 ∷ unescape (y ∷ rest)
unfolding unescape
unescape-lone y rest h k = rw (ne_eqb y 49 h) (rw (ne_eqb y 48 k) refl)

pub unescape-nothing : unescape [] ≡ []
unfolding unescape
unescape-nothing = refl

pub ruleset escapes = (unescape-other, unescape-last, unescape-slash, unescape-tilde, unescape-lone, unescape-nothing)
