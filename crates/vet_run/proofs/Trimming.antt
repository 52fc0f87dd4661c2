-- White space at the end of a record, one byte at a time.
use Rattle.std.proofs.Common.{◌≡◌, ℕ, Bool, true, false, List, [], ◌∷◌, ◌++◌, ap, refl, ◌∙◌, ◌&&◌, if◌then◌else◌}
use Rattle.std.proofs.lemmas.List.Folds.{list_all-append}
use Rattle.vet_run.specs.InputLines.{is_white, is_blank}
use Rattle.vet_run.specs.Pieces.{trimmed}

and_yes : (a b : Bool) → b ≡ true → (a && (b && true)) ≡ a
and_yes true b e = ap (λ z. z && true) e
and_yes false b e = refl

and_no : (a b : Bool) → b ≡ false → (a && (b && true)) ≡ false
and_no true b e = ap (λ z. z && true) e
and_no false b e = refl

-- whether all is white depends on the last byte alone
blank_white : (bytes : List ℕ) (w : ℕ) → is_white w ≡ true → is_blank (bytes ++ w ∷ []) ≡ is_blank bytes
blank_white bytes w e = list_all-append is_white bytes (w ∷ []) ∙ and_yes (is_blank bytes) (is_white w) e

blank_solid : (bytes : List ℕ) (w : ℕ) → is_white w ≡ false → is_blank (bytes ++ w ∷ []) ≡ false
blank_solid bytes w e = list_all-append is_white bytes (w ∷ []) ∙ and_no (is_blank bytes) (is_white w) e

pub trimmed_white : (bytes : List ℕ) (w : ℕ) → is_white w ≡ true → trimmed (bytes ++ w ∷ []) ≡ trimmed bytes
trimmed_white [] w e = ap (λ b. if b then [] else w ∷ []) (blank_white [] w e)
trimmed_white (b ∷ bytes) w e =
    ap (λ z. if z then [] else b ∷ trimmed (bytes ++ w ∷ [])) (blank_white (b ∷ bytes) w e)
    ∙ ap (λ rest. if is_blank (b ∷ bytes) then [] else b ∷ rest) (trimmed_white bytes w e)

pub trimmed_solid : (bytes : List ℕ) (w : ℕ) → is_white w ≡ false → trimmed (bytes ++ w ∷ []) ≡ bytes ++ w ∷ []
trimmed_solid [] w e = ap (λ b. if b then [] else w ∷ []) (blank_solid [] w e)
trimmed_solid (b ∷ bytes) w e =
    ap (λ z. if z then [] else b ∷ trimmed (bytes ++ w ∷ [])) (blank_solid (b ∷ bytes) w e)
    ∙ ap (λ rest. b ∷ rest) (trimmed_solid bytes w e)
