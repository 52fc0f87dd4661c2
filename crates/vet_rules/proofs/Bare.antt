-- Paths that need no quotes.
use Rattle.std.proofs.Common.{◌≡◌, true, [], ◌∷◌, refl, arith}
use Rattle.std.specs.Str.{IsAscii}
use Rattle.std.proofs.lemmas.Str.{chars-IsAscii, is_utf8-from_IsUtf8, IsUtf8-from_ascii}
use Rattle.std.proofs.lemmas.Str.Ascii.{IsAscii-cons, IsAscii-nil}
use Rattle.vet_rules.specs.Lexemes.{is_shown}
use Rattle.vet_rules.specs.Printing.{is_bare}

pub slash_shows : is_shown (47 ∷ []) ≡ true
unfolding is_shown
slash_shows =
    let a : IsAscii (47 ∷ []) = IsAscii-cons 47 [] (omega arith) IsAscii-nil in
    rw (is_utf8-from_IsUtf8 (47 ∷ []) (IsUtf8-from_ascii (47 ∷ []) a), chars-IsAscii (47 ∷ []) a) refl

pub caret_shows : is_shown (94 ∷ 47 ∷ []) ≡ true
unfolding is_shown
caret_shows =
    let a : IsAscii (94 ∷ 47 ∷ []) = IsAscii-cons 94 (47 ∷ []) (omega arith) (IsAscii-cons 47 [] (omega arith) IsAscii-nil) in
    rw (is_utf8-from_IsUtf8 (94 ∷ 47 ∷ []) (IsUtf8-from_ascii (94 ∷ 47 ∷ []) a), chars-IsAscii (94 ∷ 47 ∷ []) a) refl

pub nothing_is_bare : is_bare [] ≡ true
unfolding is_bare is_shown
nothing_is_bare = rw (is_utf8-from_IsUtf8 [] (IsUtf8-from_ascii [] IsAscii-nil), chars-IsAscii [] IsAscii-nil) refl

pub caret_is_bare : is_bare (94 ∷ []) ≡ true
unfolding is_bare is_shown
caret_is_bare =
    let a : IsAscii (94 ∷ []) = IsAscii-cons 94 [] (omega arith) IsAscii-nil in
    rw (is_utf8-from_IsUtf8 (94 ∷ []) (IsUtf8-from_ascii (94 ∷ []) a), chars-IsAscii (94 ∷ []) a) refl
